-- Document 01, Samples worked by hand: those with a star, as rows of one table; the third is as document 02, Item 1 amends it. After them two more for that
-- item, some fine cosines, worked by the rule of document 01, Cosines, apart from these definitions, searches by document 02, Item 2, and bounds by its Item 6.
-- That every row holds is proved in proofs/RowsHold.antt.
use Rattle.std.specs.Prelude.{◌≡◌, cond, List, [], ◌∷◌, ◌++◌, map, suc, eqb, ℤ, pos, neg_ℤ, ◌*ℤ◌, take}
use Rattle.ints.specs.Quotient.{rounded}
use Rattle.ints.specs.Tabulate.{tabulate}
use Rattle.kind.specs.BlockKinds.{SCALE, SCALE_DIGITS}
use Rattle.cosine.specs.Cosine.{fine, quarter_table}
use Rattle.spectrum.specs.Spectrum.{forward, backward}
use Rattle.spectrum.specs.Distance.{bound, largest_magnitude}
use Rattle.distance.specs.BoundAnswers.{bound_numbers}
use Rattle.search.specs.SearchAnswers.{nearest_numbers, strongest_numbers}

-- what a definition gives, and what the papers say that it gives
pub record Row : Type 0 where
  pub given : List ℤ
  pub said : List ℤ

-- the powers of the searches
abbrev powers : List ℤ
powers = pos 5 ∷ pos 9 ∷ pos 9 ∷ pos 2 ∷ pos 9 ∷ []

-- 1,024 samples of 7, but for a single one of -100
abbrev cake : List ℤ
cake = tabulate 1024 (λ t. cond (eqb t 700) (neg_ℤ (pos 100)) (pos 7))

unfoldable pub rows : List Row
unfolding rounded fine quarter_table forward backward strongest_numbers nearest_numbers tabulate bound largest_magnitude bound_numbers
rows =
    -- T at 0, 64, 128, 192, 256
    record {
      given = map (λ j. pos (quarter_table SCALE_DIGITS j)) (0 ∷ 64 ∷ 128 ∷ 192 ∷ 256 ∷ []);
      said = pos 32768 ∷ pos 30274 ∷ pos 23170 ∷ pos 12540 ∷ pos 0 ∷ [];
    }
    -- the rounding of 8,192 × 23,170, and of minus that: 5,792.5 becomes 5,793 and -5,792.5 becomes -5,793
    ∷ record { given = rounded SCALE (pos 8192 *ℤ pos 23170) ∷ []; said = pos 5793 ∷ [] }
    ∷ record { given = rounded SCALE (neg_ℤ (pos 8192 *ℤ pos 23170)) ∷ []; said = neg_ℤ (pos 5793) ∷ [] }
    -- {0, 0} gives {0, 0}
    ∷ record { given = forward 1 (pos 0 ∷ pos 0 ∷ []); said = pos 0 ∷ pos 0 ∷ [] }
    -- {3, -5} gives {-2, 8}
    ∷ record { given = forward 1 (pos 3 ∷ neg_ℤ (pos 5) ∷ []); said = neg_ℤ (pos 2) ∷ pos 8 ∷ [] }
    -- {1, 2, 3, 4} gives {10, -4, -2, 0}, and backward of that gives {1, 2, 3, 4}
    ∷ record { given = forward 2 (pos 1 ∷ pos 2 ∷ pos 3 ∷ pos 4 ∷ []); said = pos 10 ∷ neg_ℤ (pos 4) ∷ neg_ℤ (pos 2) ∷ pos 0 ∷ [] }
    ∷ record { given = backward 2 (pos 10 ∷ neg_ℤ (pos 4) ∷ neg_ℤ (pos 2) ∷ pos 0 ∷ []); said = pos 1 ∷ pos 2 ∷ pos 3 ∷ pos 4 ∷ [] }
    -- {1 to 8} gives {36, -14, -8, -6, -4, -2, 0, 6}
    ∷ record {
      given = forward 3 (pos 1 ∷ pos 2 ∷ pos 3 ∷ pos 4 ∷ pos 5 ∷ pos 6 ∷ pos 7 ∷ pos 8 ∷ []);
      said = pos 36 ∷ neg_ℤ (pos 14) ∷ neg_ℤ (pos 8) ∷ neg_ℤ (pos 6) ∷ neg_ℤ (pos 4) ∷ neg_ℤ (pos 2) ∷ pos 0 ∷ pos 6 ∷ [];
    }
    -- {0, 1, 0, 0, 0, 0, 0, 0} gives {1, 1, 1, 0, -1, -1, -1, 0}
    ∷ record {
      given = forward 3 (pos 0 ∷ pos 1 ∷ pos 0 ∷ pos 0 ∷ pos 0 ∷ pos 0 ∷ pos 0 ∷ pos 0 ∷ []);
      said = pos 1 ∷ pos 1 ∷ pos 1 ∷ pos 0 ∷ neg_ℤ (pos 1) ∷ neg_ℤ (pos 1) ∷ neg_ℤ (pos 1) ∷ pos 0 ∷ [];
    }
    -- and two by hand for document 02, Item 1: backward of {3, 0} divides 3 by 2 twice, of {-3, 0} minus 3
    ∷ record { given = backward 1 (pos 3 ∷ pos 0 ∷ []); said = pos 2 ∷ pos 2 ∷ [] }
    ∷ record { given = backward 1 (neg_ℤ (pos 3) ∷ pos 0 ∷ []); said = neg_ℤ (pos 2) ∷ neg_ℤ (pos 2) ∷ [] }
    -- and F at 1, 64, 128, 192, 255
    ∷ record {
      given = map (λ j. pos (fine j)) (1 ∷ 64 ∷ 128 ∷ 192 ∷ 255 ∷ []);
      said = pos 1152899801185339686 ∷ pos 1065160580698383124 ∷ pos 815238614083298888 ∷ pos 441203958630471860 ∷ pos 7074193361797262 ∷ [];
    }
    -- document 02, Item 2, in the powers {5, 9, 9, 2, 9}: the strongest line from 0 to 4, from 2 to 4 and from 3 to 3
    ∷ record { given = map pos (strongest_numbers powers 0 4 ++ strongest_numbers powers 2 4 ++ strongest_numbers powers 3 3); said = pos 1 ∷ pos 2 ∷ pos 3 ∷ [] }
    -- the line nearest to 3 that reaches 9, lines 2 and 4 being equally near, and that reaches 2; and the one nearest to 0 that reaches 9
    ∷ record { given = map pos (nearest_numbers powers 3 (pos 9) ++ nearest_numbers powers 3 (pos 2) ++ nearest_numbers powers 0 (pos 9)); said = pos 2 ∷ pos 3 ∷ pos 1 ∷ [] }
    -- no line reaches 10
    ∷ record { given = map pos (nearest_numbers powers 3 (pos 10)); said = [] }
    -- 4 for the low end 5, the high end 5, the low end 6 before the high end 5, a band from 3 to 1, and the chosen line 5; and 1 before 4 for four powers
    ∷ record {
      given = map pos (strongest_numbers powers 5 4 ++ strongest_numbers powers 0 5 ++ strongest_numbers powers 6 5 ++ strongest_numbers powers 3 1 ++ nearest_numbers powers 5 (pos 9) ++ strongest_numbers (take 4 powers) 9 0);
      said = map pos (4 ∷ 5 ∷ 4 ∷ 5 ∷ 4 ∷ 6 ∷ 4 ∷ 3 ∷ 4 ∷ 5 ∷ 1 ∷ 0 ∷ []);
    }
    -- document 02, Item 6: for M = 100 and P = 10 the bound is 2,083, and so for a block whose loudest sample is a single -100
    ∷ record { given = map pos (bound SCALE 100 10 ∷ bound_numbers cake); said = pos 2083 ∷ pos 2083 ∷ [] }
    -- the bound for M = 100, and for M = 0, at P = 1 to 10
    ∷ record { given = map pos (tabulate 10 (λ j. bound SCALE 100 (suc j))); said = map pos (0 ∷ 0 ∷ 2 ∷ 7 ∷ 20 ∷ 52 ∷ 132 ∷ 332 ∷ 832 ∷ 2083 ∷ []) }
    ∷ record { given = map pos (tabulate 10 (λ j. bound SCALE 0 (suc j))); said = map pos (0 ∷ 0 ∷ 1 ∷ 4 ∷ 11 ∷ 29 ∷ 74 ∷ 186 ∷ 466 ∷ 1166 ∷ []) }
    -- M of {3, -7, 5}, and of {-32768, 32767}
    ∷ record {
      given = map pos (largest_magnitude (pos 3 ∷ neg_ℤ (pos 7) ∷ pos 5 ∷ []) ∷ largest_magnitude (neg_ℤ (pos 32768) ∷ pos 32767 ∷ []) ∷ []);
      said = pos 7 ∷ pos 32768 ∷ [];
    }
    -- 1 for three cells, of which one is loud, and 3 for the first loud one of four
    ∷ record {
      given = map pos (bound_numbers (pos 40000 ∷ pos 1 ∷ pos 2 ∷ []) ++ bound_numbers (pos 1 ∷ pos 2 ∷ pos 32768 ∷ neg_ℤ (pos 40000) ∷ []));
      said = map pos (1 ∷ 0 ∷ 3 ∷ 2 ∷ []);
    }
    ∷ []

-- every row's two sides are equal
abbrev pub Hold : List Row → Type 0
Hold [] = Unit
Hold (r ∷ rs) = (r.given ≡ r.said) × Hold rs
