-- Each case by the cell of its exact result: the code below it, how far above that code it is, and how far the next code is.
use Rattle.std.proofs.Common.{ℕ, min, refl, ap, lit<}
use Rattle.half.specs.Formats.{half, size, Exact, exact_product, exact_sum}
use Rattle.half.specs.Roundings.{rounded}
use Rattle.half.specs.Steps.{chosen}
use Rattle.half.specs.Laws.{Results, HalfCases}
use Rattle.half.specs.declared.mode.Mode.TheVariants.{TowardZero, Nearest, Up}
use Rattle.half.proofs.Cells.{Cell, cell_rounded}
use Rattle.half.proofs.laws.half_over.Goals as goal

-- The results of an exact result in this cell.
results : (e : Exact) (c rest step : ℕ) → Cell half e 1 c rest step →
    Results (λ m. min (rounded half m e) 31744) (min (min c 31743) 31744) (min (min (chosen Nearest c rest step) 31744) 31744) (min (min (chosen Up c rest step) 31744) 31744)
results e c rest step cell = record {
  mode_0 = ap (λ x. min x 31744) (cell_rounded half e 1 c rest step cell TowardZero);
  mode_1 = ap (λ x. min x 31744) (cell_rounded half e 1 c rest step cell Nearest);
  mode_2 = ap (λ x. min x 31744) (cell_rounded half e 1 c rest step cell Up);
}

-- All cases.
cases : HalfCases
unfolding size
cases = record {
  product_normal = results (exact_product half 15361 15361) 15362 268435456 274877906944 record { scaled = lit< tt; finer = lit< tt; at = refl; next = refl; within = lit< tt };
  product_tie = results (exact_product half 15361 15872) 15873 137438953472 274877906944 record { scaled = lit< tt; finer = lit< tt; at = refl; next = refl; within = lit< tt };
  product_subnormal = results (exact_product half 3 14336) 1 8388608 16777216 record { scaled = lit< tt; finer = lit< tt; at = refl; next = refl; within = lit< tt };
  product_over = results (exact_product half 31743 16384) 32767 0 18014398509481984 record { scaled = lit< tt; finer = lit< tt; at = refl; next = refl; within = lit< tt };
  sum_tie = results (exact_sum half 31743 19456) 31743 268435456 536870912 record { scaled = lit< tt; finer = lit< tt; at = refl; next = refl; within = lit< tt };
  sum_under = results (exact_sum half 31743 19455) 31743 268304384 536870912 record { scaled = lit< tt; finer = lit< tt; at = refl; next = refl; within = lit< tt };
}

pub returns-clause-cases : goal.returns-clause-cases
returns-clause-cases c = cases
