-- How many lines, rules and tries there are. Assumes nothing.
use Rattle.std.proofs.Common.{◌≡◌, map, length, vec_items, vec_len, sym, ◌∙◌}
use lib.ListN.{length-map}
use Rattle.std.proofs.lemmas.List.{length-reverse}
use Rattle.windows.specs.Windows.{span}
use Rattle.tables.specs.declared.tables.Tables.{Tables}
use Rattle.tables.specs.Views.{found, model}

module _ (t : Tables) where
  -- There are as many windows as lines, and as many saved cores as tries.
  pub lines_count : length (model t).core.windows ≡ vec_len t.lines.windows
  lines_count = length-map (vec_items t.lines.windows) span ∙ sym t.lines.windows.ok.0

  pub rules_count : length (model t).core.rules ≡ vec_len t.rules.items
  rules_count = sym t.rules.items.ok.0

  pub tries_count : length (model t).saved ≡ vec_len t.tries
  tries_count =
      length-reverse (map (found (vec_items t.rules.items)) (vec_items t.tries))
      ∙ length-map (vec_items t.tries) (found (vec_items t.rules.items))
      ∙ sym t.tries.ok.0
