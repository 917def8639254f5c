-- What the inner functions of smoothing ask of their callers and leave. It stands in no public promise.
use Rattle.std.specs.Prelude.{◌≡◌, List, ℕ, ◌*◌, ◌^◌, ◌≤◌, ◌<◌, ℤ, nat_abs, ◌+ℤ◌, ◌-ℤ◌, ◌*ℤ◌, length, set}
use Rattle.ints.specs.Cells.{cell}
use Rattle.kind.specs.Loudness.{LOUDEST_SAMPLE}
use Rattle.residues.specs.Residue.{centred, residue}
use Rattle.residues.specs.Folded.{folded}
use Rattle.exact.specs.Smoothing.{LARGEST_WEIGHTS, divided, running}
use Rattle.exact_pair.specs.Pair.{FIRST, NoneAbove}

-- a block of 2^P samples and as many weights that smoothing takes
pub record Accepted (P : ℕ) (xs ws : List ℤ) : Type 0 where
  pub least : 1 ≤ P
  pub most : P ≤ 10
  pub long : length xs ≡ 2 ^ P
  pub as_long : length ws ≡ 2 ^ P
  pub quiet : (i : ℕ) → nat_abs (cell xs i) ≤ LOUDEST_SAMPLE
  pub light : running ws (2 ^ P) ≤ LARGEST_WEIGHTS

-- a line of a spectrum, which is at most 1024 * FIRST, or two added or subtracted: small enough to be folded and then multiplied by a number up to 2^30
abbrev pub LineRoom : ℤ → Type 0
LineRoom z = nat_abs z ≤ 2 * (1024 * FIRST)

-- two spectra that can be combined: an even number of lines
pub record Spectra (hs ks : List ℤ) : Type 0 where
  pub half : ℕ
  pub some : 0 < half
  pub few : half ≤ 512
  pub long : length hs ≡ 2 * half
  pub as_long : length ks ≡ 2 * half
  pub first : NoneAbove (1024 * FIRST) hs
  pub second : NoneAbove (1024 * FIRST) ks

-- line v and the opposite one can be combined: both spectra have them, and they are small enough
pub record Lines (v opposite : ℕ) (hs ks : List ℤ) : Type 0 where
  pub as_long : length ks ≡ length hs
  pub inside : v < length hs
  pub opposite-inside : opposite < length hs
  pub first : LineRoom (cell hs v)
  pub first-opposite : LineRoom (cell hs opposite)
  pub second : nat_abs (cell ks v) ≤ 1024 * FIRST
  pub second-opposite : nat_abs (cell ks opposite) ≤ 1024 * FIRST

-- the halved sum and difference of two lines of the second, between −(2^30 − 1) and 2^30 − 1
abbrev pub even_of : ℕ → ℕ → List ℤ → ℤ
even_of v opposite ks = centred (residue (divided 1 (cell ks v +ℤ cell ks opposite)))

abbrev pub odd_of : ℕ → ℕ → List ℤ → ℤ
odd_of v opposite ks = centred (residue (divided 1 (cell ks v -ℤ cell ks opposite)))

-- two lines combined, the second written last
abbrev pub lines_combined : ℕ → ℕ → List ℤ → List ℤ → List ℤ
lines_combined v opposite hs ks =
    let x = folded (cell hs v) in
    let y = folded (cell hs opposite) in
    let even = even_of v opposite ks in
    let odd = odd_of v opposite ks in
    set (set hs v (folded (x *ℤ even +ℤ y *ℤ odd))) opposite (folded (y *ℤ even -ℤ x *ℤ odd))
