-- Tables filled place by place, own positions, and where the distances start. Assumes nothing.
use Prim.Native.Nat.{ℕ, zero, suc, ◌+◌, ◌-◌, ◌*◌, ◌/◌, ◌%◌, ◌≤◌, ◌<◌}
use mathlib.Core.Path.{◌≡◌, refl, sym, ap, ◌∙◌}
use mathlib.Core.Logic.{◌≢◌, if_pos, if_neg}
use mathlib.Core.List.{List, [], ◌∷◌, ◌++◌, append-nil}
use native.Mathlib.Nat.{le_of_eq}
use native.Mathlib.Numerals.{add-one}
use native.Mathlib.Decide.{ℕ_discrete, dec_le}
use native.Mathlib.Omega.{arith}
use lib.ListN.{length, get_or, set, take, drop, length-set, length-take, drop_of_length-le, get_or-eq_default}
use lib.Seq.{get_or-set_same, get_or-set_other, get_or-append-add, get_or-drop, length-take-le, ext_get_or}
use Rattle.wire.specs.Sizes.{table_row, path_room}
use Rattle.wire.specs.Lent.{laid}
use Rattle.wire.proofs.Laying.{Filled, filled-done, laid_at, length-laid}
use Rattle.rounds.specs.Rounds.{Within}
use Rattle.rounds.specs.Place.{cell_place}
use Rattle.rounds.specs.Table.{cell}
use Rattle.rounds.proofs.Upto.{within}
use Rattle.cover.specs.Cells.{vertex}
use Rattle.cover.specs.TableRounds.{table_of, own, home}
use Rattle.cover.proofs.TableLaws.{table_size, table_cell}
use Rattle.cover.proofs.DistanceRounds.{home-one}
use Rattle.table_rounds.specs.Held.{path_in, PathsHeld}
use Rattle.table_starts.specs.Starting.{OnTable, Owned}

-- ---- a table filled place by place

-- what stands at a place of a table
pub table_place : (n : ℕ) (f : ℕ → ℕ → ℕ) (q : ℕ) → q < table_row * n → get_or (table_of n f) q 0 ≡ f (q / 16 + 1) (q % 16 + 1)
table_place n f q h =
    let e : 16 * (q / 16 + 1 - 1) + (q % 16 + 1) - 1 ≡ q = omega arith in
    rw e at (table_cell n f (q / 16 + 1) (q % 16 + 1) (within (omega arith) (omega arith)) (within (omega arith) (omega arith)))

-- a list with a table's cells is the table
pub table_is : (n : ℕ) (f : ℕ → ℕ → ℕ) (t : List ℕ) → length t ≡ table_row * n → ((v i : ℕ) → Within n v → Within table_row i → cell cell_place v i t ≡ f v i) → t ≡ table_of n f
table_is n f t l h = ext_get_or 0 t (table_of n f) (l ∙ sym (table_size n f)) (λ q b. at q (omega arith))
  where
    at : (q : ℕ) → q < table_row * n → get_or t q 0 ≡ get_or (table_of n f) q 0
    at q b =
        let e : 16 * (q / 16 + 1 - 1) + (q % 16 + 1) - 1 ≡ q = omega arith in
        let c = h (q / 16 + 1) (q % 16 + 1) (within (omega arith) (omega arith)) (within (omega arith) (omega arith)) in
        ap (λ (y : ℕ). get_or t y 0) (sym e) ∙ c ∙ sym (table_place n f q b)

-- tables with the same cells are the same
pub table_ext : (n : ℕ) (f g : ℕ → ℕ → ℕ) → ((v i : ℕ) → Within n v → Within table_row i → f v i ≡ g v i) → table_of n f ≡ table_of n g
table_ext n f g h = table_is n g (table_of n f) (table_size n f) (λ v i w k. table_cell n f v i w k ∙ h v i w k)

-- a loop that has filled all of a list
pub filled-all : (p out old : List ℕ) (i : ℕ) → length old ≡ length p → length p ≤ i → Filled p out old i → out ≡ p
filled-all p out old i l h f = filled-done p out old i h f ∙ ap (λ (d : List ℕ). p ++ d) (drop_of_length-le old (le_of_eq l)) ∙ append-nil p

-- and what it has yet to fill
pub filled-rest : (p out old : List ℕ) (i : ℕ) → Filled p out old i → get_or out i 0 ≡ get_or old i 0
filled-rest p out old i f =
    let e : i ≡ length (take i p) + 0 = omega (arith, length-take-le i p f.upto) in
    ap (λ (o : List ℕ). get_or o i 0) f.same ∙ ap (λ (j : ℕ). get_or (take i p ++ drop i old) j 0) e ∙ get_or-append-add (take i p) (drop i old) 0 0
    ∙ get_or-drop i old 0 0 ∙ ap (λ (j : ℕ). get_or old j 0) (omega arith)

-- ---- own positions

own_hit : (p : List ℕ) (v j : ℕ) → get_or p j 0 ≡ v → own p v (j + 1) ≡ j + 1
unfolding own vertex
own_hit p v j e =
    let q : suc j - 1 ≡ j = omega arith in
    rw (add-one j) (if_pos (ℕ_discrete (vertex p (suc j)) v) (rw q e) _ _)

own_miss : (p : List ℕ) (v j : ℕ) → get_or p j 0 ≢ v → own p v (j + 1) ≡ own p v j
unfolding own vertex
own_miss p v j d =
    let q : suc j - 1 ≡ j = omega arith in
    rw (add-one j) (if_neg (ℕ_discrete (vertex p (suc j)) v) (rw q d) _ _)

pub owned_none : (p : List ℕ) (i : ℕ) (s : List ℕ) → ((v : ℕ) → get_or s (table_row * v + i) 0 ≡ 0) → Owned p 0 i s s
unfolding own
owned_none p i s z = record { long = refl; column = λ v l h. ap (λ (q : ℕ). get_or s q 0) (place v l) ∙ z (v - 1); others = λ q d. refl }
  where
    place : (v : ℕ) → 1 ≤ v → 16 * (v - 1) + (i + 1) - 1 ≡ 16 * (v - 1) + i
    place v l = omega arith

pub owned_more : (p : List ℕ) (j i u : ℕ) (s t : List ℕ) → i < table_row → u ≡ get_or p j 0 → 1 ≤ u → table_row * u ≤ length s → Owned p j i s t → Owned p (j + 1) i s (set t (16 * (u - 1) + i) (j + 1))
owned_more p j i u s t li e lu hu w = record {
  long = length-set t (16 * (u - 1) + i) (j + 1) ∙ w.long;
  column = λ v l h. column v l h (ℕ_discrete v u);
  others = λ q d. get_or-set_other t (16 * (u - 1) + i) q (j + 1) 0 (λ b. d (omega arith)) ∙ w.others q d;
}
  where
    column : (v : ℕ) → 1 ≤ v → table_row * v ≤ length s → Dec (v ≡ u) → cell cell_place v (i + 1) (set t (16 * (u - 1) + i) (j + 1)) ≡ own p v (j + 1)
    column v l h (yes b) =
        let q : 16 * (v - 1) + (i + 1) - 1 ≡ 16 * (u - 1) + i = omega arith in
        ap (λ (y : ℕ). get_or (set t (16 * (u - 1) + i) (j + 1)) y 0) q ∙ get_or-set_same t (16 * (u - 1) + i) (j + 1) 0 (omega (arith, w.long)) ∙ sym (own_hit p v j (sym e ∙ sym b))
    column v l h (no d) = get_or-set_other t (16 * (u - 1) + i) (16 * (v - 1) + (i + 1) - 1) (j + 1) 0 (omega arith) ∙ w.column v l h ∙ sym (own_miss p v j (λ b. d (sym b ∙ sym e)))

-- a list of zeros
pub zero-laid : (full : ℕ) (old : List ℕ) → full ≡ length old → (q : ℕ) → get_or (laid full (take 0 old) old) q 0 ≡ 0
zero-laid full old e q = go (dec_le full q)
  where
    go : Dec (full ≤ q) → get_or (laid full (take 0 old) old) q 0 ≡ 0
    go (yes h) = get_or-eq_default (laid full (take 0 old) old) 0 {n = q} (omega (arith, length-laid full (take 0 old) old (omega arith) (omega arith)))
    go (no h) = laid_at full (take 0 old) old (omega arith) q (omega arith)

-- The loop over the paths: columns 1 to i hold the own positions on their paths, and the others 0.
pub record Owning (paths counts : List ℕ) (n i : ℕ) (t : List ℕ) : Type 0 where
  pub long : length t ≡ table_row * n
  pub columns : (v j : ℕ) → Within n v → Within i j → cell cell_place v j t ≡ own (path_in paths counts j) v (length (path_in paths counts j))
  pub zeros : (q : ℕ) → i ≤ q % table_row → get_or t q 0 ≡ 0

pub owning_none : (paths counts : List ℕ) (n : ℕ) (t : List ℕ) → length t ≡ table_row * n → ((q : ℕ) → get_or t q 0 ≡ 0) → Owning paths counts n 0 t
owning_none paths counts n t l z = record { long = l; columns = λ v j w k. absurd (omega arith); zeros = λ q _. z q }

pub owning_more : {paths counts : List ℕ} {n i : ℕ} {t : List ℕ} (u path : List ℕ) → i < table_row → path ≡ path_in paths counts (i + 1) → Owning paths counts n i t → Owned path (length path) i t u → Owning paths counts n (i + 1) u
owning_more {paths} {counts} {n} {i} {t} u path h e w o = record {
  long = o.long ∙ w.long;
  columns = λ v j wv k. at v j wv k (ℕ_discrete j (i + 1));
  zeros = λ q b. o.others q (omega arith) ∙ w.zeros q (omega arith);
}
  where
    at : (v j : ℕ) → Within n v → Within (i + 1) j → Dec (j ≡ i + 1) → cell cell_place v j u ≡ own (path_in paths counts j) v (length (path_in paths counts j))
    at v j wv k (yes q) = rw (q, ← e) (o.column v wv.low (omega (arith, w.long)))
    at v j wv k (no d) = o.others (16 * (v - 1) + j - 1) (omega arith) ∙ w.columns v j wv (within k.low (omega arith))

pub owning_all : {paths counts : List ℕ} {n i : ℕ} {t : List ℕ} → table_row ≤ i → Owning paths counts n i t → t ≡ table_of n (λ v j. own (path_in paths counts j) v (length (path_in paths counts j)))
owning_all {paths} {counts} {n} {i} {t} h w = table_is n (λ v j. own (path_in paths counts j) v (length (path_in paths counts j))) t w.long (λ v j wv k. w.columns v j wv (within k.low (omega arith)))

-- ---- home: where the distances start

pub home-none : (p : List ℕ) (v : ℕ) → home p 0 v ≡ 0
unfolding home
home-none p v = refl

home_other : (p : List ℕ) (r v : ℕ) → vertex p r ≢ v → home p r v ≡ 0
unfolding home
home_other p zero v d = refl
home_other p (suc j) v d = if_neg (ℕ_discrete (vertex p (suc j)) v) d _ _

vertex_at : (paths : List ℕ) (at r : ℕ) → 1 ≤ r → get_or paths (at + r - 1) 0 ≡ vertex (drop at paths) r
unfolding vertex
vertex_at paths at r l = ap (λ (q : ℕ). get_or paths q 0) (omega arith) ∙ sym (get_or-drop at paths (r - 1) 0)

pub home_here : (paths : List ℕ) (at r v : ℕ) → 1 ≤ r → get_or paths (at + r - 1) 0 ≡ v → 1 ≡ home (drop at paths) r v
home_here paths at r v l e = sym (home-one (drop at paths) r v l (sym (vertex_at paths at r l) ∙ e))

pub home_away : (paths : List ℕ) (at r v : ℕ) → 1 ≤ r → get_or paths (at + r - 1) 0 ≢ v → 0 ≡ home (drop at paths) r v
home_away paths at r v l d = sym (home_other (drop at paths) r v (λ e. d (vertex_at paths at r l ∙ e)))

pub home_same : (a b : ℕ) → a ≡ b → 1 ≡ home (a ∷ []) 1 b
unfolding vertex
home_same a b e = sym (home-one (a ∷ []) 1 b (omega arith) e)

pub home-apart : (a b : ℕ) → a ≢ b → 0 ≡ home (a ∷ []) 1 b
unfolding vertex
home-apart a b d = sym (home_other (a ∷ []) 1 b d)

-- the start of the distances, place by place
abbrev pub homes_in : List ℕ → List ℕ → ℕ → ℕ → ℕ
homes_in paths reach v i = home (drop (path_room * (i - 1)) paths) (cell cell_place v i reach) v

pub homes_place : (n : ℕ) (paths reach : List ℕ) (q : ℕ) → q < table_row * n → home (drop (path_room * (q % 16)) paths) (get_or reach q 0) (q / 16 + 1) ≡ get_or (table_of n (homes_in paths reach)) q 0
homes_place n paths reach q h =
    let a : q % 16 + 1 - 1 ≡ q % 16 = omega arith in
    let b : 16 * (q / 16 + 1 - 1) + (q % 16 + 1) - 1 ≡ q = omega arith in
    sym (table_place n (homes_in paths reach) q h ∙ ap (λ (y : ℕ). home (drop (path_room * y) paths) (get_or reach (16 * (q / 16 + 1 - 1) + (q % 16 + 1) - 1) 0) (q / 16 + 1)) a
    ∙ ap (λ (y : ℕ). home (drop (path_room * (q % 16)) paths) (get_or reach y 0) (q / 16 + 1)) b)

-- a part of the paths is a path
pub part_path : (paths counts : List ℕ) (i x : ℕ) → x ≡ get_or counts i 0 → take (path_room * i + x - path_room * i) (drop (path_room * i) paths) ≡ path_in paths counts (i + 1)
unfolding path_in
part_path paths counts i x e =
    let a : i + 1 - 1 ≡ i = omega arith in
    let b : path_room * i + x - path_room * i ≡ get_or counts i 0 = omega arith in
    rw (a, b)

-- and its vertices have their rows
pub part_on : {n size : ℕ} {paths counts : List ℕ} (path : List ℕ) (i : ℕ) → PathsHeld n paths counts → i < table_row → size ≡ table_row * n → path ≡ path_in paths counts (i + 1) → OnTable size path
unfolding path_in
part_on {n} {size} {paths} {counts} path i P l e q = rw q (record { short = short; on = λ j h. let w = P.on (i + 1) j k h in (w.low, omega arith) })
  where
    k : Within table_row (i + 1)
    k = within (omega arith) (omega arith)

    short : length (path_in paths counts (i + 1)) ≤ path_room
    short = omega (arith, length-take (get_or counts (i + 1 - 1) 0) (drop (path_room * (i + 1 - 1)) paths), P.short (i + 1) k)
