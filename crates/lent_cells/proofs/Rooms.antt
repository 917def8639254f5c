-- Cells that are read into the front of a room.
-- Example: `room_front k n h : length (take k (replicate n (pos 0))) ≡ k`, with h : k ≤ n.
use mathlib.Core.Path.{◌≡◌, ◌∙◌, ap}
use mathlib.Core.List.{List}
use Prim.Native.Nat.{ℕ, ◌*◌, ◌≤◌}
use native.Mathlib.Omega.{arith}
use lib.IntN.{ℤ, pos}
use lib.ListN.{length, length-replicate, replicate, take}
use lib.Seq.{length-take-le}
use Rattle.kind.specs.BlockKinds.{LARGEST}
use Rattle.little_endian.specs.Reading.{signeds}
use Rattle.little_endian.proofs.Signed.{length-signeds}
use Rattle.cell_bytes.specs.CellBytes.{CELL, cell_count, decoded}
use Rattle.cell_bytes.proofs.CellsRead.{decoded_all, room_fits}

pub room_front : (k n : ℕ) → k ≤ n → length (take k (replicate n (pos 0))) ≡ k
room_front k n h = length-take-le k (replicate n (pos 0)) (omega (arith, length-replicate n (pos 0)))

-- as many as were counted
pub front_signeds : (bytes : List ℕ) (k n : ℕ) → k ≤ n → k ≡ cell_count (CELL * LARGEST) (length bytes) → {ys : List ℤ} → ys ≡ decoded bytes (take k (replicate n (pos 0)))
    → (ys ≡ signeds CELL k bytes) × (length ys ≡ k)
front_signeds bytes k n h e d = let is = d ∙ decoded_all bytes _ (room_fits LARGEST bytes k e _ (room_front k n h)) ∙ ap (λ (m : ℕ). signeds CELL m bytes) (room_front k n h) in
    (is, ap length is ∙ length-signeds CELL k bytes)
