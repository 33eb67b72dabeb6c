-- What is gathered is at least as good as each value that was looked at, and is one of them. Assumes nothing.
use mathlib.Core.Path.{◌≡◌, refl, ap}
use mathlib.Core.Logic.{◌⊎◌, inl, inr, ite, if_pos, if_neg}
use Prim.Native.Nat.{ℕ, zero, suc, ◌+◌}
use native.Mathlib.Numerals.{add-one}
use Rattle.rounds.specs.Rounds.{Within}
use Rattle.rounds.specs.Gather.{gather}
use Rattle.rounds.specs.Rule.{Rule, value}
use Rattle.rounds.specs.Best.{Order}
use Rattle.rounds.proofs.Upto.{within-suc, within-last, within_none, within_cases, step_down, ite_cases}

-- ---- a loop's turns, in its own numbers

module _ {X : ℕ → Type 0} (join : ℕ → ℕ → ℕ) (test : (e : ℕ) → Dec (X e)) (candidate : ℕ → ℕ) (first : ℕ) where
  pub gather_none : gather join test candidate first 0 ≡ first
  unfolding gather
  gather_none = refl

  pub gather-take : (k : ℕ) → X (k + 1) → gather join test candidate first (k + 1) ≡ join (gather join test candidate first k) (candidate (k + 1))
  unfolding gather
  gather-take k = rw add-one (λ x. if_pos (test (suc k)) x _ _)

  pub gather_skip : (k : ℕ) → ¬ X (k + 1) → gather join test candidate first (k + 1) ≡ gather join test candidate first k
  unfolding gather
  gather_skip k = rw add-one (λ x. if_neg (test (suc k)) x _ _)

-- only the candidates that pass count
pub gather_ext : {X : ℕ → Type 0} (join : ℕ → ℕ → ℕ) (test : (e : ℕ) → Dec (X e)) (f g : ℕ → ℕ) (a b k : ℕ) → a ≡ b → ((e : ℕ) → Within k e → X e → f e ≡ g e) → gather join test f a k ≡ gather join test g b k
unfolding gather
gather_ext join test f g a b zero p h = p
gather_ext {X} join test f g a b (suc k) p h = go (test (suc k)) (gather_ext join test f g a b k p (λ e w. h e (within-suc w)))
  where
    go : (d : Dec (X (suc k))) → gather join test f a k ≡ gather join test g b k → ite d (join (gather join test f a k) (f (suc k))) (gather join test f a k) ≡ ite d (join (gather join test g b k) (g (suc k))) (gather join test g b k)
    go (yes x) ih = rw (ih, h (suc k) (within-last k) x)
    go (no _) ih = ih

-- of zeros 0 is gathered, where the better of two zeros is 0
pub gather-zero : {X : ℕ → Type 0} (join : ℕ → ℕ → ℕ) (test : (e : ℕ) → Dec (X e)) (candidate : ℕ → ℕ) {first : ℕ} (k : ℕ) → join 0 0 ≡ 0 → first ≡ 0 → ((e : ℕ) → Within k e → candidate e ≡ 0) → gather join test candidate first k ≡ 0
unfolding gather
gather-zero join test candidate zero j z h = z
gather-zero join test candidate (suc k) j z h =
    let ih = gather-zero join test candidate k j z (λ e w. h e (within-suc w)) in
    ite_cases (λ x. x ≡ 0) (test (suc k)) (λ _. rw (ih, h (suc k) (within-last k)) j) (λ _. ih)

-- ---- the best

module _ {X : ℕ → Type 0} {good : ℕ → ℕ → Type 0} {join : ℕ → ℕ → ℕ} (O : Order good join) (test : (e : ℕ) → Dec (X e)) (candidate : ℕ → ℕ) (first : ℕ) where
  pub gather-first : (k : ℕ) → good first (gather join test candidate first k)
  unfolding gather
  gather-first zero = O.refl
  gather-first (suc k) = ite_cases (good first) (test (suc k)) (λ _. O.trans (gather-first k) (O.left _ _)) (λ _. gather-first k)

  pub gather-each : (k e : ℕ) → Within k e → X e → good (candidate e) (gather join test candidate first k)
  unfolding gather
  gather-each zero e w x = absurd (within_none w)
  gather-each (suc k) e w x = ite_cases (good (candidate e)) (test (suc k)) (λ _. go (λ i. gather-each k e i x) (within_cases w))
      (λ h. gather-each k e (step_down X w x h) x)
    where
      go : (Within k e → good (candidate e) (gather join test candidate first k)) → (e ≡ suc k) ⊎ Within k e → good (candidate e) (join (gather join test candidate first k) (candidate (suc k)))
      go ih (inl i) = rw i (O.right _ _)
      go ih (inr i) = O.trans (ih i) (O.left _ _)

  -- x is the first value, or a candidate that passes
  abbrev pub OneOf : ℕ → ℕ → Type 0
  OneOf k x = (x ≡ first) ⊎ ((e : ℕ) × Within k e × X e × (x ≡ candidate e))

  pub gather-one : (k : ℕ) → OneOf k (gather join test candidate first k)
  unfolding gather
  gather-one zero = inl refl
  gather-one (suc k) =
      let ih = gather-one k in
      ite_cases (OneOf (suc k)) (test (suc k)) (λ x. go ih x (O.which _ _)) (λ _. up ih)
    where
      up : {r : ℕ} → OneOf k r → OneOf (suc k) r
      up (inl z) = inl z
      up (inr (e, w, x, q)) = inr (e, within-suc w, x, q)

      go : {r j : ℕ} → OneOf k r → X (suc k) → (j ≡ r) ⊎ (j ≡ candidate (suc k)) → OneOf (suc k) j
      go ih x (inr q) = inr (suc k, within-last k, x, q)
      go ih x (inl q) = rw q (up ih)

-- what an entry takes depends on its own value and on those of the sources of the links into it
pub value_ext : (r : Rule) (f g : ℕ → ℕ) (v : ℕ) → f v ≡ g v → ((e : ℕ) → Within r.links.m e → f (r.links.source e) ≡ g (r.links.source e)) → value r f v ≡ value r g v
unfolding value
value_ext r f g v p h = gather_ext r.join (r.links.into? v) _ _ _ _ r.links.m p (λ e w _. ap (r.carry v e) (h e w))
