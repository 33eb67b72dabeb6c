-- The target of the rounds: the best value that the links bring to an entry from the starts. And what is asked of a rule for its rounds to come there.
-- Assumes nothing.
use Rattle.std.specs.Prelude.{◌≡◌, ◌≢◌, ◌⊎◌, List, ℕ, length, get_or}
use Rattle.rounds.specs.Rounds.{Within}
use Rattle.rounds.specs.Rule.{Links, Rule}
use Rattle.rounds.specs.Table.{cell}

-- a link from entry u into entry v
pub record Link (l : Links) (u v : ℕ) : Type 0 where
  pub e : ℕ
  pub listed : Within l.m e
  pub leaves : l.source e ≡ u
  pub enters : l.Into v e

-- each link comes from one of entries 1 to n
abbrev pub Sources : ℕ → Links → Type 0
Sources n l = (e : ℕ) → Within l.m e → Within n (l.source e)

-- One column: its rule; the value that each entry starts at; and `good x y`, that y is at least as good as x.
pub record Column : Type 1 where
  pub rule : Rule
  pub starts : ℕ → ℕ
  pub good : ℕ → ℕ → Type 0

module _ (c : Column) where
  -- x can come to entry v: v starts at it, or a link carries it to v from a value that can come to the link's source
  pub data Derived : ℕ → ℕ → Type 0 where
    start : {v : ℕ} → Derived v (c.starts v)
    along : {u v x : ℕ} → Derived u x → (a : Link c.rule.links u v) → Derived v (c.rule.carry v a.e x)

  -- a is the target of entry v: it can come there, and it is at least as good as whatever can
  pub record Best (v a : ℕ) : Type 0 where
    pub derived : Derived v a
    pub top : (x : ℕ) → Derived v x → c.good x a

-- There is one, though nothing need say which: it is not so that there is none.
abbrev pub Some : Type 0 → Type 0
Some A = ¬ ¬ A

-- What is asked of "at least as good", and of the better of two: it is an order, and the better is one of the two and at least as good as both.
pub record Order (good : ℕ → ℕ → Type 0) (join : ℕ → ℕ → ℕ) : Type 0 where
  pub good? : (x y : ℕ) → Dec (good x y)
  pub refl : {x : ℕ} → good x x
  pub trans : {x y z : ℕ} → good x y → good y z → good x z
  pub antisym : {x y : ℕ} → good x y → good y x → x ≡ y
  pub left : (x y : ℕ) → good x (join x y)
  pub right : (x y : ℕ) → good y (join x y)
  pub which : (x y : ℕ) → (join x y ≡ x) ⊎ (join x y ≡ y)

-- What is asked of a column of n entries.
pub record Lawful (n : ℕ) (c : Column) : Type 0 where
  pub order : Order c.good c.rule.join
  pub sources : Sources n c.rule.links
  -- a link carries the better value to the better
  pub mono : {u v : ℕ} (a : Link c.rule.links u v) → Within n v → {x y : ℕ} → c.good x y → c.good (c.rule.carry v a.e x) (c.rule.carry v a.e y)
  -- and different values to different ones, where they are worth their place: at least as good as the start there
  pub inj : {u v : ℕ} (a : Link c.rule.links u v) → Within n v → {x y : ℕ} → c.good (c.starts v) (c.rule.carry v a.e x) → c.rule.carry v a.e x ≡ c.rule.carry v a.e y → x ≡ y

-- A column of n entries that is fit for its rounds: it is lawful, each entry has a target, and one entry is final at the start.
pub record Fit (n : ℕ) (c : Column) : Type 0 where
  pub lawful : Lawful n c
  pub target : (v : ℕ) → Within n v → Some ((a : ℕ) × Best c v a)
  pub entry : ℕ
  pub among : Within n entry
  pub final : Best c entry (c.starts entry)

-- the table holds the starts of its columns
abbrev pub Started : (ℕ → ℕ → ℕ) → (n wide : ℕ) → (ℕ → Column) → List ℕ → Type 0
Started place n wide columns table = (v i : ℕ) → Within n v → Within wide i → cell place v i table ≡ (columns i).starts v

-- what the rounds of a table leave: its length, every cell its target, and the places that are no cell's as they were
pub record Finished (place : ℕ → ℕ → ℕ) (n wide : ℕ) (columns : ℕ → Column) (before after : List ℕ) : Type 0 where
  pub long : length after ≡ length before
  pub final : (v i : ℕ) → Within n v → Within wide i → Best (columns i) v (cell place v i after)
  pub rest : (q : ℕ) → ((v i : ℕ) → Within n v → Within wide i → q ≢ place v i) → get_or after q 0 ≡ get_or before q 0
