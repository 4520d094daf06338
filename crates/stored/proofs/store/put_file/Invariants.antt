use Rattle.std.proofs.Common.{◌+◌, map, length}
use Rattle.windows.specs.Windows.{span}
use Rattle.stored.specs.Stores.{items_of}
use Rattle.stored.proofs.Writes.{Put}
use Rattle.stored.proofs.store.put_file.Given as goal

-- so far k lines are written
abbrev pub invariant-loop-k : goal.invariant-loop-k
invariant-loop-k l = Put l.drive l.mode (items_of (map span l.lines) l.rules) l.fn.out l.out l.k

-- all lines are written, and k rules
abbrev pub invariant-loop-k-2 : goal.invariant-loop-k-2
invariant-loop-k-2 l = Put l.fn.drive l.fn.mode (items_of (map span l.lines) l.rules) l.fn.out l.out (length l.lines + l.k)
