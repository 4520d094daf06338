use Rattle.std.proofs.Common.{◌≡◌, ℕ, ◌≤◌, List, ◌∷◌, map, reverse, get_or, drop, vec_items, vec_len, sym, ap, ◌∙◌, subst, arith, rules}
use Rattle.windows.specs.Windows.{span}
use Rattle.law.specs.declared.calls.Rule.{Rule}
use Rattle.law.specs.Sheets.{Core}
use Rattle.tables.specs.declared.mark.Mark.{Mark}
use Rattle.tables.specs.Marks.{Nested}
use Rattle.tables.specs.Views.{core, found}
use Rattle.tables.proofs.Marks.{nested_strike, found_strike, saved_push, last_up_to}
use Rattle.tables.proofs.Models.{same_sheet}
use Rattle.tables.proofs.tables.Tables.strike_try.Goals as goal

-- the marks left are nested in the rules left
pub invariant_of-self-in-Some : goal.invariant_of-self-in-Some
invariant_of-self-in-Some c =
    let old = c.args.self.now in
    let mark = c.in-Some.mark in
    let all = subst (Nested (vec_len old.rules.items)) c.in-Some.ensures.items old.nested in
    let few : mark.rules ≤ vec_len old.rules.items = last_up_to (vec_len old.rules.items) (vec_items c.pop.new.self) mark all in
    let count : vec_len c.truncate.new.self ≡ mark.rules = omega (arith, c.truncate.ensures.len) in
    let nest = subst (λ (n : ℕ). Nested n (vec_items c.pop.new.self)) (sym count) (nested_strike (vec_len old.rules.items) (vec_items c.pop.new.self) mark all) in
    record { few_tries = omega (arith, c.in-Some.ensures.len); room_tries = search rules; nested = nest }

-- the innermost mark's core is back, and the other marks bring back what they did
pub returns-in-Some : goal.returns-in-Some
returns-in-Some c =
    let old = c.args.self.now in
    let mark = c.in-Some.mark in
    let rest = vec_items c.pop.new.self in
    let rules = vec_items old.rules.items in
    let all = subst (Nested (vec_len old.rules.items)) c.in-Some.ensures.items old.nested in
    let saved : reverse (map (found rules) (vec_items old.tries)) ≡ found rules mark ∷ reverse (map (found rules) rest) =
    ap (λ (ms : List Mark). reverse (map (found rules) ms)) c.in-Some.ensures.items ∙ saved_push (found rules) rest mark in
    same_sheet _ _ _ _ _ _ _ _ c.after_strike-self.ensures
    (ap (map span) c.bring_back.ensures)
    c.truncate.ensures.items
    (ap reverse (ap (λ (rs : List Rule). map (found rs) rest) c.truncate.ensures.items ∙ found_strike rules mark.rules rest (nested_strike (vec_len old.rules.items) rest mark all)))
    ∙ ap (λ (cs : List Core). record { core = get_or cs 0 (core old); saved = drop 1 cs }) (sym saved)
