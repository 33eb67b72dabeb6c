-- The loop that fills the paths: what holds after i of them, and how it goes on.
-- Assumes nothing.
use Prim.Native.Nat.{ℕ, ◌+◌, ◌*◌, ◌<◌, ◌≤◌}
use mathlib.Core.Path.{◌≡◌, refl, sym, ap, ◌∙◌}
use mathlib.Core.List.{List, ◌++◌, map, flatten}
use native.Mathlib.Omega.{arith}
use lib.ListN.{length, set, drop, length-drop, length-map}
use lib.Seq.{length-take-le}
use borrow.Rule.Slice.PartMut.{mid_of, put_mid}
use Rattle.wire.specs.Found.{Part}
use Rattle.wire.specs.Lent.{padded, front}
use Rattle.wire.specs.Sizes.{path_room}
use Rattle.wire.proofs.Laying.{length-padded}
use Rattle.graph.specs.Content.{path_numbers}
use Rattle.graph.specs.Good.{All}
use Rattle.graph_fill.specs.Filling.{items, one_number, one_path, numbers_in, paths_in}
use Rattle.graph_fill.proofs.Items.{content-more, next_more, length-items, item_holds, first_hold}
use Rattle.graph_fill.proofs.Fronts.{front-more, part-back}
use Rattle.graph_fill.proofs.Packing.{lengths-more, rooms-more, length-rooms}

-- the first i paths stand in their rooms, and their counts at the front; the next one is at the place `at`
pub record PathsFilled (s : List ℕ) (start : ℕ) (paths₀ counts₀ paths counts : List ℕ) (at i : ℕ) : Type 0 where
  pub place : at ≡ (paths_in s i start).next
  pub rooms : paths ≡ front (path_numbers (paths_in s i start).content) paths₀
  pub numbers : counts ≡ front (map length (paths_in s i start).content) counts₀

pub paths-none : (s : List ℕ) (start : ℕ) (paths₀ counts₀ : List ℕ) → PathsFilled s start paths₀ counts₀ paths₀ counts₀ start 0
unfolding items path_numbers flatten
paths-none s start paths₀ counts₀ = record { place = refl; rooms = refl; numbers = refl }

length-path : (s : List ℕ) (at : ℕ) → length (one_path s at).content ≡ (one_number s at).content
unfolding one_path
length-path s at = length-items (one_number s) (one_number s at).content (one_number s at).next

path-is : (s : List ℕ) (at count next : ℕ) → count ≡ (one_number s at).content → next ≡ (one_number s at).next → numbers_in s count next ≡ one_path s at
unfolding one_path
path-is s at count next e f = rw (e, f)

-- a whole room was lent on
room-length : (from n : ℕ) (paths : List ℕ) → n ≡ path_room → from + n ≤ length paths → length (mid_of from n paths) ≡ path_room
room-length from n paths w h = length-take-le n (drop from paths) (simp length-drop (omega arith)) ∙ w

pub room-fits : (from n count : ℕ) (paths : List ℕ) → n ≡ path_room → from + n ≤ length paths → count ≤ path_room → count ≤ length (mid_of from n paths)
room-fits from n count paths w h f = omega (arith, room-length from n paths w h)

module _ (s : List ℕ) (start k : ℕ) (fit : All (λ p. length p ≤ path_room) (paths_in s k start).content) where
  -- the path at hand has room
  pub path-fits : (at i count : ℕ) → i < k → at ≡ (paths_in s i start).next → count ≡ (one_number s at).content → count ≤ path_room
  path-fits at i count h e v =
      let f = item_holds (one_path s) (λ p. length p ≤ path_room) i k start h fit in
      rw (v, e, ← length-path s (paths_in s i start).next) f

  -- the paths before it take as many rooms
  pub rooms-before : (i : ℕ) → i ≤ k → length (path_numbers (paths_in s i start).content) ≡ path_room * i
  rooms-before i h =
      length-rooms (paths_in s i start).content (first_hold (one_path s) (λ p. length p ≤ path_room) i k start h fit)
      ∙ ap (λ (n : ℕ). path_room * n) (length-items (one_path s) i start)

  -- one path more: its count, then its vertices in the room that `ys` is when it is back
  pub paths-more : (paths₀ counts₀ paths counts ys : List ℕ) (at i from n count next after : ℕ)
      → i < k → i < length counts₀
      → from ≡ path_room * i → n ≡ path_room → from + n ≤ length paths
      → count ≡ (one_number s at).content → next ≡ (one_number s at).next
      → after ≡ (numbers_in s count next).next
      → ys ≡ padded (length (mid_of from n paths)) (numbers_in s count next).content
      → PathsFilled s start paths₀ counts₀ paths counts at i
      → PathsFilled s start paths₀ counts₀ (put_mid from n paths ys) (set counts i count) after (i + 1)
  paths-more paths₀ counts₀ paths counts ys at i from n count next after h few o w fit v u e f p =
      let one = one_path s in
      let t = path-is s at count next v u ∙ ap one p.place in
      let m = content-more one i start in
      let es = path_numbers (paths_in s i start).content in
      let path = (one (paths_in s i start).next).content in
      let l : length (numbers_in s count next).content ≡ count = length-items (one_number s) count next in
      let g : path_numbers (paths_in s (i + 1) start).content ≡ es ++ padded path_room path = ap path_numbers m ∙ rooms-more (paths_in s i start).content path in
      let long : length (mid_of from n paths) ≡ path_room = room-length from n paths w fit in
      let room : ys ≡ padded path_room path = f ∙ rw (long, t) in
      let fits : length path ≤ path_room = rw (← t, l) (path-fits at i count h p.place v) in
      record {
        place = e ∙ ap (λ (q : Part (List ℕ)). q.next) t ∙ sym (next_more one i start);
        rooms = part-back es ys paths paths₀ from n (o ∙ sym (rooms-before i (omega arith))) (rw (room, length-padded path_room path fits) (sym w)) p.rooms ∙ rw (room, g);
        numbers = front-more (map length (paths_in s i start).content) _ counts counts₀ i count
            (length-map (paths_in s i start).content length ∙ length-items one i start)
            few
            p.numbers
            (ap (map length) m ∙ lengths-more (paths_in s i start).content path ∙ rw (← t, l));
      }
