-- What a turn of each loop adds, in the code's own numbers (k + 1): the loop over entries or over the cells of a row (`Swept`), and the loop over rounds
-- (`Looping`). Assumes nothing.
use mathlib.Core.Path.{◌≡◌, refl, sym, ap, ◌∙◌, subst}
use mathlib.Core.Logic.{◌≢◌}
use mathlib.Core.Bool.{Bool, true, false, true≢false}
use mathlib.Core.List.{List}
use Prim.Native.Nat.{ℕ, ◌+◌, ◌≤◌, ◌<◌}
use native.Mathlib.Numerals.{add-one}
use native.Mathlib.Omega.{arith}
use lib.ListN.{length, get_or, set, length-set}
use lib.Seq.{set-get_or, get_or-set_same}
use Rattle.rounds.specs.Rounds.{Within, sweep, Rounds, quiet, busy}
use Rattle.rounds.specs.Rule.{Rule, value}
use Rattle.rounds.specs.Table.{cell, cell_step}
use Rattle.rounds.specs.Loop.{Told, Ends}
use Rattle.rounds.proofs.InPlace.{Local, Moved, moved_on, moved_now, moved-busy}

-- a flag that is up, or down, has one thing to say
pub told_up : {Changed Same : Type 0} → Changed → Told true Changed Same
told_up c = record { moved = λ _. c; still = λ e. absurd (true≢false e) }

pub told_down : {Changed Same : Type 0} → Same → Told false Changed Same
told_down c = record { moved = λ e. absurd (true≢false (sym e)); still = λ _. c }

-- ---- the loop over entries 1 to n; or, with one column, over the cells of a row

-- The loop's invariant: k steps from s have left t, and the flag says whether an entry among them is not what it was. `get v i` reads entry v in column i.
pub record Swept (wide : ℕ) (step : ℕ → List ℕ → List ℕ) (get : ℕ → ℕ → List ℕ → ℕ) (s : List ℕ) (k : ℕ) (t : List ℕ) (flag : Bool) : Type 0 where
  pub long : length t ≡ length s
  pub is : t ≡ sweep step k s
  pub told : Told flag ((i : ℕ) × Within wide i × Moved step (λ v. get v i) k s) (t ≡ s)

pub swept-start : (wide : ℕ) (step : ℕ → List ℕ → List ℕ) (get : ℕ → ℕ → List ℕ → ℕ) (s : List ℕ) → Swept wide step get s 0 s false
unfolding sweep
swept-start wide step get s = record { long = refl; is = refl; told = told_down refl }

grown : (step : ℕ → List ℕ → List ℕ) (s : List ℕ) (k : ℕ) (t u : List ℕ) → t ≡ sweep step k s → u ≡ step (k + 1) t → u ≡ sweep step (k + 1) s
unfolding sweep
grown step s k t u e h = rw (add-one, ← e, ← add-one k) h

module _ (n : ℕ) {wide : ℕ} {step : ℕ → List ℕ → List ℕ} {get : ℕ → ℕ → List ℕ → ℕ} (local : (i : ℕ) → Within wide i → Local n step (λ v. get v i)) where
  -- a step that changed nothing
  pub swept_same : {s : List ℕ} {k : ℕ} {t : List ℕ} {b : Bool} (u : List ℕ) → k < n → Swept wide step get s k t b → u ≡ step (k + 1) t → u ≡ t → Swept wide step get s (k + 1) u b
  swept_same {s} {k} {t} u l w h e = record {
    long = ap length e ∙ w.long;
    is = grown step s k t u w.is h;
    told = record { moved = λ q. let (i, x, d) = w.told.moved q in (i, x, rw add-one (moved_on n step (λ v. get v i) (local i x) k s l d)); still = λ q. e ∙ w.told.still q };
  }

  -- a step that changed its entry, in column i
  pub swept-moved : {s : List ℕ} {k : ℕ} {t : List ℕ} {b : Bool} (u : List ℕ) (i : ℕ) → k < n → Swept wide step get s k t b → length u ≡ length t → u ≡ step (k + 1) t → Within wide i → get (k + 1) i u ≢ get (k + 1) i t → Swept wide step get s (k + 1) u true
  swept-moved {s} {k} {t} u i l w lu h x d = record {
    long = lu ∙ w.long;
    is = grown step s k t u w.is h;
    told = told_up (i, x, rw add-one (moved_now n step (λ v. get v i) (local i x) k s l (rw (← w.is, ← add-one k, ← h) d)));
  }

  -- a step that sets one place, to what is there, or to something else
  pub swept_kept : {s : List ℕ} {k : ℕ} {t : List ℕ} {b : Bool} (at x : ℕ) → k < n → Swept wide step get s k t b → step (k + 1) t ≡ set t at x → x ≡ get_or t at 0 → Swept wide step get s (k + 1) t b
  swept_kept {t = t} at x l w h e = swept_same t l w (sym (h ∙ ap (set t at) e ∙ set-get_or t at 0)) refl

  pub swept-set : {s : List ℕ} {k : ℕ} {t : List ℕ} {b : Bool} (at x i : ℕ) → k < n → Swept wide step get s k t b → step (k + 1) t ≡ set t at x → at < length t → x ≢ get_or t at 0
      → Within wide i → ((r : List ℕ) → get (k + 1) i r ≡ get_or r at 0) → Swept wide step get s (k + 1) (set t at x) true
  swept-set {t = t} at x i l w h inside d k reads = swept-moved (set t at x) i l w (length-set t at x) (sym h) k
      (λ e. d (sym (get_or-set_same t at x 0 inside) ∙ sym (reads (set t at x)) ∙ e ∙ reads t))

-- the loop's end, for a round: whether it changed anything
pub swept-round : {wide : ℕ} {step : ℕ → List ℕ → List ℕ} {get : ℕ → ℕ → List ℕ → ℕ} {s : List ℕ} {n : ℕ} {t : List ℕ} {b : Bool} → Swept wide step get s n t b → Told b (t ≢ s) (t ≡ s)
swept-round {step = step} {get = get} {s = s} {n = n} w = record {
  moved = λ q. let (i, x, d) = w.told.moved q in rw w.is (moved-busy step (λ v. get v i) n s d);
  still = w.told.still;
}

-- what a cell's step sets, where the code has found its value x for place `at`
pub cell-step : (place : ℕ → ℕ → ℕ) (rules : ℕ → Rule) (v i : ℕ) (t : List ℕ) {at x : ℕ} → at ≡ place v i → x ≡ value (rules i) (λ u. cell place u i t) v → cell_step place rules v i t ≡ set t at x
unfolding cell_step
cell-step place rules v i t p q = rw (p, q)

-- ---- the loop over rounds

-- after c rounds, which have left t, there are more to come
pub record Going {S : Type 0} (n : ℕ) (round : S → S) (s : S) (c : ℕ) (t : S) : Type 0 where
  pub rest : ℕ
  pub last : S
  pub rounds : Rounds round t rest last
  pub all : Rounds round s (c + rest) last
  pub bound : c + rest ≤ n

-- The loop's invariant: while the flag is up there are rounds to come; when it is down the rounds are made, and c is their count.
abbrev pub Looping : {S : Type 0} → ℕ → (S → S) → S → ℕ → S → Bool → Type 0
Looping n round s c t flag = Told flag (Going n round s c t) (Rounds round s c t)

module _ {S : Type 0} {n : ℕ} {round : S → S} {s : S} where
  pub loop_start : Ends n round s → Looping n round s 0 s true
  loop_start w = told_up (record { rest = w.count; last = w.last; rounds = w.rounds; all = subst (λ (x : ℕ). Rounds round s x w.last) (omega arith) w.rounds; bound = omega arith })

  -- the count stays below n: it fits, and the loop ends
  pub going_few : {c : ℕ} {t : S} → Going n round s c t → c < n
  going_few {c} {t} w = go w.rounds w.bound
    where
      go : {r : ℕ} {z : S} → Rounds round t r z → c + r ≤ n → c < n
      go (quiet q) l = omega arith
      go (busy d q) l = omega arith

  -- one more round, and what it says
  pub loop_turn : {c : ℕ} {t : S} (u : S) {b : Bool} → Going n round s c t → u ≡ round t → Told b (u ≢ t) (u ≡ t) → Looping n round s (c + 1) u b
  loop_turn {c} {t} u w e told = record { moved = λ q. on w.rounds w.all w.bound (told.moved q); still = λ q. end w.rounds w.all (told.still q) }
    where
      on : {r : ℕ} {z : S} → Rounds round t r z → Rounds round s (c + r) z → c + r ≤ n → u ≢ t → Going n round s (c + 1) u
      on (quiet q) a l h = absurd (h (e ∙ q))
      on (busy {t = z} {k = r} d q) a l h = record { rest = r; last = z; rounds = rw e q; all = subst (λ (x : ℕ). Rounds round s x z) (omega arith) a; bound = omega arith }

      end : {r : ℕ} {z : S} → Rounds round t r z → Rounds round s (c + r) z → u ≡ t → Rounds round s (c + 1) u
      end (quiet q) a h = rw h a
      end (busy d q) a h = absurd (d (sym e ∙ h))
