use Rattle.std.proofs.Common.{◌≡◌, leb, rules, tests}
use Rattle.std.specs.List.{list_all}
use Rattle.std.proofs.lemmas.Iterator.{YieldsList-from_slice}
use Rattle.std.proofs.lemmas.Iterator.Search.{all_from_yields_List}
use Rattle.report.proofs.Rows.{printable_windows}
use Rattle.report.proofs.lines.are_printable.Goals as goal

pub returns-then-windows-le64 : goal.returns-then-windows-le64
returns-then-windows-le64 c =
    let codes : c.all.result ≡ list_all (λ w. leb w.hi 65535) c.args.windows.now =
    all_from_yields_List (λ w. leb w.hi 65535) _ _ c.all.result c.all.ensures.ran (YieldsList-from_slice c.args.windows.now cc) (λ x b q k. search (rules, tests)) in
    rw (printable_windows, ← codes) (search rules)
