-- The way back over a setting: what gives a score there, that there is room for the way, and the chain that is returned. Assumes nothing.
use Prim.Native.Nat.{ℕ, suc, ◌+◌, ◌-◌, ◌≤◌, ◌<◌}
use Rattle.std.specs.Prelude.{Option, Some, None, MatchOption}
use mathlib.Core.Path.{◌≡◌, refl, sym, ap, ◌∙◌}
use mathlib.Core.Logic.{◌≢◌}
use mathlib.Core.List.{List, [], ◌∷◌, ◌++◌, append-nil}
use native.Mathlib.Nat.{le_refl}
use native.Mathlib.Omega.{arith}
use native.Mathlib.Decide.{dec_lt}
use lib.ListN.{length, set, take, drop, length-set, length-drop, drop_of_length-le}
use lib.Seq.{drop-cons, drop-set-lt, get_or-set_same, append_snoc}
use lib.Dec.{ltb}
use borrow.Author.Tests.{lt-ltb, le-ltb}
use Rattle.wire.specs.Cases.{pick}
use Rattle.wire.specs.Lent.{laid, front}
use Rattle.wire.specs.Sizes.{full_chain}
use Rattle.wire.proofs.Laying.{laid-after}
use Rattle.rounds.specs.Rounds.{Within}
use Rattle.rounds.specs.Table.{entry}
use Rattle.rounds.proofs.Upto.{total, total_tight, total_const}
use Rattle.graph.specs.Content.{Graph}
use Rattle.anchors.specs.Anchors.{AnchorSet}
use Rattle.chain.specs.Steps.{anchor_at}
use Rattle.chain.specs.Named.{Gives, Back, stop, go, Top, empty, some}
use Rattle.chain.proofs.NamedLaws.{given}
use Rattle.steps.specs.Setting.{Setting, anchor_of, row_in, step_of, Holds}
use Rattle.steps.specs.Scores.{Scored}
use Rattle.score_giver.specs.Giver.{NoneHas, Lowest, GivesIn}
use Rattle.named_chain.specs.Returning.{CameFrom, WayBack, ChainLaid}
use Rattle.steps.proofs.HeldLaws.{held-within, within_held, held_number, held-order, step-told}
use Rattle.steps.proofs.SettingLaws.{held-step}

-- ---- what gives a score

-- anchor i gives the score of anchor j, by the setting's steps
abbrev pub GivesOf : Setting → List ℕ → ℕ → ℕ → Type 0
GivesOf s S j i = (1 ≤ step_of s i j) × (entry i S + (anchor_of s j).weight ≡ entry j S + (step_of s i j - 1))

module _ {s : Setting} {g : Graph} {a : AnchorSet} (H : Holds s g a) (S : List ℕ) where
  weigh : (j : ℕ) → Within s.count j → (anchor_of s j).weight ≡ (anchor_at a.anchors j).weight
  weigh j w = held_number H (λ b. b.weight) j w

  giving : (i j : ℕ) → Within s.count i → Within s.count j → GivesOf s S j i → Gives g a.anchors S i j
  giving i j wi wj (l, e) = record {
    within = held-within H wi;
    k = step_of s i j - 1;
    step = held-step H i j wi wj (step_of s i j - 1) (omega arith);
    exact = omega (arith, weigh j wj);
  }

  gives_of : (i j : ℕ) → Within s.count j → Gives g a.anchors S i j → GivesOf s S j i
  gives_of i j wj p =
      let e = step-told H i j p.k (within_held H p.within) wj p.step in
      (omega arith, omega (arith, p.exact, weigh j wj))

-- ---- where to go back to

module _ {s : Setting} {S : List ℕ} (z : Scored s S) (j : ℕ) (w : Within s.count j) where
  pub origin_none : entry j S ≡ (anchor_of s j).weight → CameFrom s S j None
  origin_none e g a H = e ∙ weigh H S j w

  -- an anchor whose score is not its weight has one that gives it
  given-there : entry j S ≢ (anchor_of s j).weight → (i : ℕ) × Within s.count i × GivesOf s S j i
  given-there n =
      let best : (i : ℕ) → Within (length z.a.anchors) i → _ = λ i wi. z.best i (within_held z.holds wi) in
      let (i, p) = given z.g z.a.anchors S best j (held-within z.holds w) (λ e. n (e ∙ sym (weigh z.holds S j w))) in
      (i, within_held z.holds p.within, gives_of z.holds S i j w p)

  pub origin_from : (r : Option ℕ) → entry j S ≢ (anchor_of s j).weight → MatchOption r (NoneHas (GivesOf s S j) s.count) (Lowest (GivesOf s S j) s.count) → CameFrom s S j r
  origin_from None n l g a H = let (i, wi, p) = given-there n in absurd (l i wi p)
  origin_from (Some i) n l g a H = (
    λ e. n (e ∙ sym (weigh H S j w)),
    record {
      gives = giving H S i j l.there w l.has;
      lowest = λ h q. l.low h (within_held H q.within) (gives_of H S h j w q);
    },
  )

  -- what gives the score by the row of anchor j's vertex gives it by the setting's steps
  pub origin_by : (r : Option ℕ) (row : List ℕ) → entry j S ≢ (anchor_of s j).weight → row ≡ row_in s (anchor_of s j).v
      → MatchOption r (NoneHas (GivesIn s.ends S row (entry j S) (anchor_of s j).v (anchor_of s j).x (anchor_of s j).c (anchor_of s j).weight) (length S))
      (Lowest (GivesIn s.ends S row (entry j S) (anchor_of s j).v (anchor_of s j).x (anchor_of s j).c (anchor_of s j).weight) (length S))
      → CameFrom s S j r
  unfolding step_of
  origin_by r row n e h = origin_from r n (rw (e, z.size) at h)

-- ---- room: the anchors whose read place is below that of anchor j

pub below : Setting → ℕ → ℕ → ℕ
below s j h = pick (ltb (anchor_of s h).c (anchor_of s j).c) 1 0

pub below_count : Setting → ℕ → ℕ
below_count s j = total (below s j) s.count

below_yes : (s : Setting) (j h : ℕ) → (anchor_of s h).c < (anchor_of s j).c → below s j h ≡ 1
unfolding below
below_yes s j h l = simp (lt-ltb (anchor_of s h).c (anchor_of s j).c l)

below_no : (s : Setting) (j h : ℕ) → (anchor_of s j).c ≤ (anchor_of s h).c → below s j h ≡ 0
unfolding below
below_no s j h l = simp (le-ltb (anchor_of s h).c (anchor_of s j).c l)

below-some : (s : Setting) (j h : ℕ) → below s j h ≤ 1
below-some s j h = on (dec_lt (anchor_of s h).c (anchor_of s j).c)
  where
    on : Dec ((anchor_of s h).c < (anchor_of s j).c) → below s j h ≤ 1
    on (yes l) = omega (arith, below_yes s j h l)
    on (no n) = omega (arith, below_no s j h (omega arith))

-- they are fewer than all
below-few : (s : Setting) (j : ℕ) → Within s.count j → below_count s j < s.count
unfolding below_count
below-few s j w = on (dec_lt (total (below s j) s.count) s.count)
  where
    on : Dec (total (below s j) s.count < s.count) → total (below s j) s.count < s.count
    on (yes l) = l
    on (no n) =
        let e = total_tight (below s j) (λ _. 1) s.count (λ h v. below-some s j h) (omega (arith, total_const 1 s.count)) j w in
        absurd (omega (arith, below_no s j j (le_refl _)))

-- and fewer for an anchor whose read place is lower
below-falls : (s : Setting) (i j : ℕ) → Within s.count i → (anchor_of s i).c < (anchor_of s j).c → below_count s i < below_count s j
unfolding below_count
below-falls s i j w l = on (dec_lt (total (below s i) s.count) (total (below s j) s.count))
  where
    each : (h : ℕ) → Within s.count h → below s i h ≤ below s j h
    each h v = at (dec_lt (anchor_of s h).c (anchor_of s i).c)
      where
        at : Dec ((anchor_of s h).c < (anchor_of s i).c) → below s i h ≤ below s j h
        at (yes p) = omega (arith, below-some s i h, below_yes s j h (omega arith))
        at (no n) = omega (arith, below_no s i h (omega arith))

    on : Dec (total (below s i) s.count < total (below s j) s.count) → total (below s i) s.count < total (below s j) s.count
    on (yes k) = k
    on (no n) =
        let e = total_tight (below s i) (below s j) s.count each (omega arith) i w in
        absurd (omega (arith, below_no s i i (le_refl _), below_yes s j i l))

-- ---- the way

-- anchor j is met next, with `at` places left: every way back from it, followed by what was met, is the way back from the last anchor
pub record Going (s : Setting) (S back : List ℕ) (last at j : ℕ) : Type 0 where
  pub within : Within s.count j
  pub size : length back ≡ s.count
  pub upto : at ≤ s.count
  pub room : below_count s j < at
  pub goes : (g : Graph) (a : AnchorSet) → Holds s g a → (js : List ℕ) → Back g a.anchors S j js → Back g a.anchors S last (js ++ drop at back)

-- the anchor is written in front
front-set : (back : List ℕ) (at j : ℕ) → 1 ≤ at → at ≤ length back → drop (at - 1) (set back (at - 1) j) ≡ j ∷ drop at back
front-set back at j l h =
    let e : suc (at - 1) ≡ at = omega arith in
    drop-cons (set back (at - 1) j) (at - 1) 0 (rw length-set (omega arith))
    ∙ rw (get_or-set_same back (at - 1) j 0 (omega arith), drop-set-lt (suc (at - 1)) back (at - 1) j (omega arith), e)

module _ {s : Setting} {S back : List ℕ} {last : ℕ} where
  pub going_start : Within s.count last → length back ≡ s.count → Going s S back last s.count last
  going_start w l = record {
    within = w;
    size = l;
    upto = le_refl _;
    room = below-few s last w;
    goes = λ g a H js b. rw (drop_of_length-le back {i = s.count} (omega arith), append-nil js) b;
  }

  module _ {at j : ℕ} (z : Scored s S) (t : Going s S back last at j) where
    written : drop (at - 1) (set back (at - 1) j) ≡ j ∷ drop at back
    written = front-set back at j (omega (arith, t.room)) (omega (arith, t.upto, t.size))

    pub going_end : CameFrom s S j None → WayBack s S last (drop (at - 1) (set back (at - 1) j))
    going_end o g a H = rw written (t.goes g a H (j ∷ []) (stop (o g a H)))

    lower : {i : ℕ} → CameFrom s S j (Some i) → Within s.count i × ((anchor_of s i).c < (anchor_of s j).c)
    lower {i} o =
        let l = (o z.g z.a z.holds).1 in
        let wi = within_held z.holds l.gives.within in
        (wi, held-order z.holds i j l.gives.k wi t.within l.gives.step)

    pub going_more : {i : ℕ} → CameFrom s S j (Some i) → Going s S (set back (at - 1) j) last (at - 1) i
    going_more {i} o = record {
      within = (lower o).0;
      size = simp length-set t.size;
      upto = omega (arith, t.upto);
      room = omega (arith, t.room, below-falls s i j (lower o).0 (lower o).1);
      goes = λ g a H js b. rw (written, ← append_snoc js j (drop at back)) (t.goes g a H (js ++ (j ∷ [])) (go (o g a H).0 (o g a H).1 b));
    }

-- ---- the chain as it is lent back

module _ {s : Setting} {S : List ℕ} (z : Scored s S) where
  pub count_few : s.count ≤ full_chain
  count_few = omega (arith, z.holds.good_anchors.few_anchors, z.holds.anchors_are)

  pub chain_none : (old : List ℕ) → length S ≡ 0 → ChainLaid s S old (laid full_chain (take 0 old) old) 0 0
  chain_none old e = record { js = []; returned = λ g a H. empty (omega (arith, H.anchors_are, z.size)); long = refl; lies = refl }

  pub chain_some : (back way old out : List ℕ) (last at : ℕ) → length back ≡ s.count → way ≡ drop at back → Top (length S) S last
      → WayBack s S last (drop at back) → out ≡ front way old
      → ChainLaid s S old (laid full_chain (take (length way) out) out) (length way) (entry last S)
  chain_some back way old out last at l h t b e =
      record {
        js = way;
        returned = λ g a H. some (top g a H) (rw h (b g a H));
        long = refl;
        lies = laid-after full_chain way out old (length way) refl (omega (arith, count_few, length-drop at back, ap length h)) e;
      }
    where
      top : (g : Graph) (a : AnchorSet) → Holds s g a → Top (length a.anchors) S last
      top g a H = record {
        within = held-within H (rw z.size at t.within);
        greatest = λ i w. t.greatest i (rw z.size (within_held H w));
        lowest = λ i w q. t.lowest i (rw z.size (within_held H w)) q;
      }
