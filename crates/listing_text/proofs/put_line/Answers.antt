use Prim.Native.Nat.{ℕ, ◌+◌, ◌-◌, ◌≤◌}
use mathlib.Core.Path.{◌≡◌, refl, sym, subst}
use mathlib.Core.List.{List, ◌++◌}
use lib.ListN.{length, length-append}
use native.Mathlib.Omega.{arith}
use borrow.Rule.Slice.PartMut.{mid_of, put_mid}
use Rattle.wire.specs.Lent.{front}
use Rattle.graph_bytes.proofs.Along.{Along, along-first, along_lent, along-room, along-within, along-more}
use Rattle.decimal_text.specs.Decimal.{decimal}
use Rattle.decimal_text.specs.Words.{line_end}
use Rattle.anchor_row.specs.Row.{row_in}
use Rattle.listing_text.specs.Lines.{spaced, anchor_line, line_in}
use Rattle.decimal_text.proofs.Ending.{along_byte}
use Rattle.listing_text.proofs.put_line.Goals as goal

module _ (numbers scores : List ℕ) (j : ℕ) where
  parts : line_in numbers scores j ≡ decimal j ++ (spaced (row_in numbers scores j) ++ line_end)
  unfolding anchor_line
  parts = refl

  -- the number is written
  first : (old out : List ℕ) (n : ℕ) → length (line_in numbers scores j) ≤ length old → n ≡ length (decimal j) → out ≡ front (decimal j) old
      → Along (line_in numbers scores j) (spaced (row_in numbers scores j) ++ line_end) old out n
  first old out n h e p = along-first _ (decimal j) _ old out n parts h e p

  -- and the row, which is r
  second : (r old out part : List ℕ) (at n : ℕ) → r ≡ row_in numbers scores j → Along (line_in numbers scores j) (spaced (row_in numbers scores j) ++ line_end) old out at
      → n ≡ length (spaced r) → part ≡ front (spaced r) (mid_of at (length out - at) out)
      → Along (line_in numbers scores j) line_end old (put_mid at (length out - at) out part) (at + n)
  second r old out part at n s a = subst (λ (t : List ℕ). n ≡ length (spaced t) → part ≡ front (spaced t) (mid_of at (length out - at) out)
      → Along (line_in numbers scores j) line_end old (put_mid at (length out - at) out part) (at + n)) (sym s) (along-more _ _ _ old out part at n a)

pub row_of-row-requires : goal.row_of-row-requires
row_of-row-requires c = c.requires.held_at

pub put_decimal-at-requires : goal.put_decimal-at-requires
put_decimal-at-requires c =
    let a = c.args.anchors.now in
    let h : length (decimal c.args.number ++ (spaced (row_in a.numbers.now a.scores.now c.args.number) ++ line_end)) ≤ length c.args.out.now =
    subst (λ (t : List ℕ). length t ≤ length c.args.out.now) (parts a.numbers.now a.scores.now c.args.number) c.requires.number_in_bounds in
    omega (arith, simp length-append at h)

pub slice_bounds-put_row-count : goal.slice_bounds-put_row-count
slice_bounds-put_row-count c = along-within (first _ _ _ _ _ _ c.requires.number_in_bounds c.put_decimal-at.ensures.0 c.put_decimal-at.ensures.1)

pub put_row-at-requires : goal.put_row-at-requires
put_row-at-requires c =
    let a = first _ _ _ _ _ _ c.requires.number_in_bounds c.put_decimal-at.ensures.0 c.put_decimal-at.ensures.1 in
    rw c.row_of-row.ensures (along_lent _ _ line_end _ _ _ a)

pub bounds-out-at : goal.bounds-out-at
bounds-out-at c =
    let a = first _ _ _ _ _ _ c.requires.number_in_bounds c.put_decimal-at.ensures.0 c.put_decimal-at.ensures.1 in
    let b = second _ _ _ _ _ _ _ _ _ c.row_of-row.ensures a c.put_row-at.ensures.0 c.put_row-at.ensures.1 in
    omega (arith, along-room b)

pub returns : goal.returns
returns c =
    let a = first _ _ _ _ _ _ c.requires.number_in_bounds c.put_decimal-at.ensures.0 c.put_decimal-at.ensures.1 in
    let b = second _ _ _ _ _ _ _ _ _ c.row_of-row.ensures a c.put_row-at.ensures.0 c.put_row-at.ensures.1 in
    along_byte _ _ _ _ _ b
