-- Rules that look at the same values give the same rounds. Assumes nothing.
use Prim.Native.Nat.{ℕ, zero, suc}
use mathlib.Core.Path.{◌≡◌, refl, ap, ◌∙◌}
use mathlib.Core.Logic.{ite}
use lib.ListN.{set}
use Rattle.rounds.specs.Rounds.{Within, sweep}
use Rattle.rounds.specs.Gather.{gather}
use Rattle.rounds.specs.Rule.{Rule, value}
use Rattle.rounds.specs.Table.{cell, cell_step, row_step}
use Rattle.rounds.proofs.Upto.{within-suc, within-last}

-- candidates that pass in both, with the same values
pub record Alike (X Y : ℕ → Type 0) (f g : ℕ → ℕ) (e : ℕ) : Type 0 where
  pub left : X e → Y e
  pub right : Y e → X e
  pub same : f e ≡ g e

pub gather-same : {X Y : ℕ → Type 0} (join : ℕ → ℕ → ℕ) (s : (e : ℕ) → Dec (X e)) (t : (e : ℕ) → Dec (Y e)) (f g : ℕ → ℕ) (a m : ℕ) → ((e : ℕ) → Within m e → Alike X Y f g e) → gather join s f a m ≡ gather join t g a m
unfolding gather
gather-same join s t f g a zero h = refl
gather-same {X} {Y} join s t f g a (suc m) h = go (s (suc m)) (t (suc m)) (h (suc m) (within-last m)) (gather-same join s t f g a m (λ e w. h e (within-suc w)))
  where
    go : (x : Dec (X (suc m))) (y : Dec (Y (suc m))) → Alike X Y f g (suc m) → gather join s f a m ≡ gather join t g a m
        → ite x (join (gather join s f a m) (f (suc m))) (gather join s f a m) ≡ ite y (join (gather join t g a m) (g (suc m))) (gather join t g a m)
    go (yes x) (yes y) k ih = rw (ih, k.same)
    go (yes x) (no y) k ih = absurd (y (k.left x))
    go (no x) (yes y) k ih = absurd (x (k.right y))
    go (no x) (no y) k ih = ih

sweep_ext : {S : Type 0} (step other : ℕ → S → S) (n : ℕ) → ((v : ℕ) → Within n v → (s : S) → step v s ≡ other v s) → (s : S) → sweep step n s ≡ sweep other n s
unfolding sweep
sweep_ext step other zero h s = refl
sweep_ext step other (suc n) h s = ap (step (suc n)) (sweep_ext step other n (λ v w. h v (within-suc w)) s) ∙ h (suc n) (within-last n) (sweep other n s)

-- what every column gives alike, a row does
pub row_alike : (place : ℕ → ℕ → ℕ) (rules others : ℕ → Rule) (wide : ℕ) → ((i : ℕ) → Within wide i → (f : ℕ → ℕ) (v : ℕ) → value (rules i) f v ≡ value (others i) f v) → row_step place rules wide ≡ row_step place others wide
unfolding row_step cell_step
row_alike place rules others wide h = λ j v s. sweep_ext (cell_step place rules v) (cell_step place others v) wide (λ i w t. ap (set t (place v i)) (h i w (λ u. cell place u i t) v)) s j
