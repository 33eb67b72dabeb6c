-- Steps that take, at each entry, the best of its own value and of those over the links into it come nearer to the best derived values.
-- Assumes nothing.
use mathlib.Core.Path.{◌≡◌, refl, sym, ap, ◌∙◌, subst}
use mathlib.Core.Logic.{◌⊎◌, inl, inr, ⊎_elim}
use mathlib.Core.HLevel.{Discrete}
use Prim.Native.Nat.{ℕ, ◌≤◌}
use native.Mathlib.Decide.{ℕ_discrete}
use Rattle.rounds.specs.Rounds.{Within, sweep}
use Rattle.rounds.specs.Best.{Link, Column, Derived, start, along, Best, Some, Lawful, Fit}
use Rattle.rounds.specs.Loop.{Settles}
use Rattle.rounds.proofs.Counts.{settles_map}
use Rattle.rounds.proofs.InPlace.{Local, Keeps}
use Rattle.rounds.proofs.Choice.{◌>>=◌, some, by_dec}
use Rattle.rounds.proofs.Nearing.{Nearing, Next, weaken}
use Rattle.rounds.proofs.Target.{Columns, ends}

-- a link's source is an entry
pub source-within : {n u v : ℕ} {c : Column} → Lawful n c → Link c.rule.links u v → Within n u
source-within {n = n} W a = subst (Within n) a.leaves (W.sources a.e a.listed)

-- two targets of an entry are equal
pub best_unique : {n : ℕ} {c : Column} → Lawful n c → {v a b : ℕ} → Best c v a → Best c v b → a ≡ b
best_unique W x y = W.order.antisym (y.top _ x.derived) (x.top _ y.derived)

-- A target is derived over targets only: what holds of the entries whose target is their start, and passes along a link from one target to the next, holds of all.
module _ {n : ℕ} {c : Column} (W : Lawful n c) (T : ℕ → ℕ) (is : (v : ℕ) → Within n v → Best c v (T v)) where
  pub optimal : (Q : ℕ → Type 0) → ((v : ℕ) → Within n v → c.starts v ≡ T v → Q v)
      → ((u v : ℕ) (a : Link c.rule.links u v) → Within n u → Within n v → Q u → c.rule.carry v a.e (T u) ≡ T v → Q v) → (v : ℕ) → Within n v → Q v
  optimal Q base more v w = go (is v w).derived w refl
    where
      go : {v x : ℕ} → Derived c v x → Within n v → x ≡ T v → Q v
      go {v} start w e = base v w e
      go {v} (along {u = u} {x = x} r a) w e =
          let wu : Within n u = source-within W a in
          let over : c.rule.carry v a.e (T u) ≡ T v = W.order.antisym ((is v w).top _ (along (is u wu).derived a)) (rw (← e) (W.mono a w ((is u wu).top x r))) in
          more u v a wu w (go r wu (W.inj a w (rw e ((is v w).top _ start)) (e ∙ sym over))) over

-- a step takes the best of its own value and of those over the links into it
pub record Takes {S : Type 0} (n : ℕ) (c : Column) (step : ℕ → S → S) (get : ℕ → S → ℕ) (P : S → Type 0) : Type 0 where
  pub local : Local n step get
  pub shape : Keeps n step P
  pub keeps : (v : ℕ) (s : S) → Within n v → P s → c.good (get v s) (get v (step v s))
  pub gains : (v : ℕ) (s : S) → Within n v → P s → {u : ℕ} (a : Link c.rule.links u v) → c.good (c.rule.carry v a.e (get u s)) (get v (step v s))
  pub one_of : (v : ℕ) (s : S) → Within n v → P s → (get v (step v s) ≡ get v s) ⊎ ((u : ℕ) × (a : Link c.rule.links u v) × (get v (step v s) ≡ c.rule.carry v a.e (get u s)))

-- the invariant: every value is derived, and is at least as good as its start
pub record Sound {S : Type 0} (n : ℕ) (c : Column) (get : ℕ → S → ℕ) (s : S) : Type 0 where
  pub above : (v : ℕ) → Within n v → c.good (c.starts v) (get v s)
  pub from : (v : ℕ) → Within n v → Derived c v (get v s)

module _ {S : Type 0} (n : ℕ) (c : Column) (step : ℕ → S → S) (get : ℕ → S → ℕ) (P : S → Type 0) (W : Lawful n c) (K : Takes n c step get P) where
  keep : (v : ℕ) (s : S) → Within n v → P s → Sound n c get s → Sound n c get (step v s)
  keep v s w p d = record { above = λ u k. up u k (ℕ_discrete u v); from = λ u k. on u k (ℕ_discrete u v) }
    where
      up : (u : ℕ) → Within n u → Dec (u ≡ v) → c.good (c.starts u) (get u (step v s))
      up u k (yes e) = rw e (W.order.trans (d.above v w) (K.keeps v s w p))
      up u k (no h) = rw (K.local u v s k w h) (d.above u k)

      new : (get v (step v s) ≡ get v s) ⊎ ((u : ℕ) × (a : Link c.rule.links u v) × (get v (step v s) ≡ c.rule.carry v a.e (get u s))) → Derived c v (get v (step v s))
      new (inl e) = rw e (d.from v w)
      new (inr (u, a, e)) = rw e (along (d.from u (source-within W a)) a)

      on : (u : ℕ) → Within n u → Dec (u ≡ v) → Derived c u (get u (step v s))
      on u k (yes e) = rw e (new (K.one_of v s w p))
      on u k (no h) = rw (K.local u v s k w h) (d.from u k)

  module _ (T : ℕ → ℕ) (is : (v : ℕ) → Within n v → Best c v (T v)) where
    -- a value is never better than its target
    under : (v : ℕ) (s : S) → Within n v → Sound n c get s → c.good (get v s) (T v)
    under v s w d = (is v w).top _ (d.from v w)

    -- so what is at least as good as the target is the target
    meets : (v : ℕ) (s : S) → Within n v → P s → Sound n c get s → c.good (T v) (get v (step v s)) → get v (step v s) ≡ T v
    meets v s w p d h = W.order.antisym (under v (step v s) w (keep v s w p d)) h

    -- along the derivation of a target: an entry at its target brings the next one to its own
    bring : (s : S) → Sound n c get s → (v : ℕ) → Within n v → (get v s ≡ T v) ⊎ Next n step get (λ t. P t × Sound n c get t) T s
    bring s d = optimal W T is (λ v. (get v s ≡ T v) ⊎ Next n step get (λ t. P t × Sound n c get t) T s)
        (λ v w e. inl (W.order.antisym (under v s w d) (rw (← e) (d.above v w))))
        (λ u v a wu w q e. on a wu w e q (ℕ_discrete (get v s) (T v)))
      where
        on : {u v : ℕ} (a : Link c.rule.links u v) → Within n u → Within n v → c.rule.carry v a.e (T u) ≡ T v → (get u s ≡ T u) ⊎ Next n step get (λ t. P t × Sound n c get t) T s → Dec (get v s ≡ T v) → (get v s ≡ T v) ⊎ Next n step get (λ t. P t × Sound n c get t) T s
        on a wu w e (inr x) h = inr x
        on a wu w e (inl eu) (yes h) = inl h
        on {u} {v} a wu w e (inl eu) (no h) = inr (record {
          b = v;
          among = w;
          off = h;
          comes = λ t q pres. meets v t w q.0 q.1 (subst (λ y. c.good y (get v (step v t))) (ap (c.rule.carry v a.e) (pres u wu eu) ∙ e) (K.gains v t w q.0 a));
        })

    pub nearing : Nearing n step get (λ t. P t × Sound n c get t) T
    nearing = record {
      stays = λ v s w q e. meets v s w q.0 q.1 (subst (λ y. c.good y (get v (step v s))) e (K.keeps v s w q.0));
      next = λ v s w q h. ⊎_elim (λ e. absurd (h e)) (λ x. x) (bring s q.1 v w);
    }

-- A state of columns 1 to wide, each fit for its rounds: from the starts the rounds settle, at the targets.
module _ {S : Type 0} (n wide : ℕ) (any : 1 ≤ wide) (columns : ℕ → Column) (step : ℕ → S → S) (get : ℕ → ℕ → S → ℕ) (P : S → Type 0)
    (same : Discrete S)
    (fix : (v : ℕ) (s : S) → Within n v → P s → ((i : ℕ) → Within wide i → get v i (step v s) ≡ get v i s) → step v s ≡ s)
    (W : (i : ℕ) → Within wide i → Fit n (columns i))
    (K : (i : ℕ) → Within wide i → Takes n (columns i) step (λ v. get v i) P)
  where
    abbrev All : S → Type 0
    All s = P s × ((i : ℕ) → Within wide i → Sound n (columns i) (λ v. get v i) s)

    table : Columns n wide step get All (λ v i. Best (columns i) v)
    table = record {
      any = any;
      same = same;
      frame = λ i k. record {
        same = ℕ_discrete;
        local = (K i k).local;
        keeps = λ v s w q. ((K i k).shape v s w q.0, λ j h. keep n (columns j) step (λ v. get v j) P (W j h).lawful (K j h) v s w q.0 (q.1 j h));
      };
      fix = λ v s w q. fix v s w q.0;
      there = λ v i w k. (W i k).target v w;
      near = λ i k T is. weaken (λ s q. (q.0, q.1 i k)) (nearing n (columns i) step (λ v. get v i) P (W i k).lawful (K i k) T is);
    }

    pub relax : (s : S) → P s → ((v i : ℕ) → Within n v → Within wide i → get v i s ≡ (columns i).starts v) → Settles n (sweep step n) (λ t. P t × ((v i : ℕ) → Within n v → Within wide i → Best (columns i) v (get v i t))) s
    relax s p at = settles_map done (ends n wide step get All (λ v i. Best (columns i) v) table s (p, sound) begun)
      where
        begun : (i : ℕ) → Within wide i → (v : ℕ) × Within n v × ((a : ℕ) → Best (columns i) v a → get v i s ≡ a)
        begun i k = let f = W i k in (f.entry, f.among, λ a b. at f.entry i f.among k ∙ best_unique f.lawful f.final b)

        sound : (i : ℕ) → Within wide i → Sound n (columns i) (λ v. get v i) s
        sound i k = record { above = λ v w. rw (at v i w k) (W i k).lawful.order.refl; from = λ v w. rw (at v i w k) start }

        done : (t : S) → All t × ((v i : ℕ) → Within n v → Within wide i → Some (Best (columns i) v (get v i t))) → P t × ((v i : ℕ) → Within n v → Within wide i → Best (columns i) v (get v i t))
        done t (q, b) = (
          q.0,
          λ v i w k. record {
            derived = (q.1 i k).from v w;
            top = λ x h. by_dec ((W i k).lawful.order.good? x (get v i t)) (b v i w k >>= (λ y. some (y.top x h)));
          },
        )
