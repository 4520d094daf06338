-- What is answered to a command without effect.
-- Assumes nothing.
use Rattle.std.specs.Prelude.{Ok, Err, Result}
use Rattle.std.specs.declared.alloc.AllocError.{AllocError}
use Rattle.commands.specs.declared.print.Answer.{Answer}
use Rattle.desk.specs.declared.no_effect.NoEffect.{NoEffect}

-- Why it has none, unless memory ran out.
abbrev pub unless_memory : NoEffect → Result Answer AllocError
unless_memory (NoEffect.Told reply) = Ok (Answer.Short reply)
unless_memory (NoEffect.Memory e) = Err e
