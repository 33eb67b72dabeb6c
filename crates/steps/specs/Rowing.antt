-- What the loops that make a row are given: that vertices have their entries and labels, and that the sums on the way fit.
use Rattle.std.specs.Prelude.{ℕ, zero, suc, ◌+◌, ◌≤◌, ◌<◌, ◌^◌, ◌≡◌, List, [], length, get_or, Option, MatchOption}
use Rattle.rounds.specs.Rounds.{Within}
use Rattle.pair_step.specs.Pairs.{Ends}
use Rattle.steps.specs.Setting.{Setting, below_in, row_in}

-- back along a path from position a: every sum on the way, plus 1, is a number of 32 bits
unfoldable pub SumsFit : List ℕ → List ℕ → ℕ → ℕ → Type 0
SumsFit lengths path zero sum = Unit {0}
SumsFit lengths path (suc a) sum = (sum + 1 < 2 ^ 32) × SumsFit lengths path a (below_in lengths path a sum)

-- back along a path from position a, over a row of n entries: each vertex on the way is one of 1 to n, and has a label
pub record BackFits (n : ℕ) (lengths path : List ℕ) (a sum : ℕ) : Type 0 where
  pub labels : n ≤ length lengths
  pub room : a ≤ length path
  pub vertices : (b : ℕ) → b < a → Within n (get_or path b 0)
  pub sums : SumsFit lengths path a sum

-- a setting of n vertices and k paths with their tables, and no anchors: all that a row is made of
abbrev pub tables : ℕ → ℕ → List ℕ → List ℕ → List ℕ → List ℕ → List ℕ → Setting
tables n k lengths paths reach distance closed = record {
  n = n;
  k = k;
  count = 0;
  lengths = lengths;
  paths = paths;
  reach = reach;
  distance = distance;
  closed = closed;
  numbers = [];
  ends = record { us = []; ys = []; ds = [] };
}

-- the tables of a setting, without its anchors
abbrev pub tables_of : Setting → Setting
tables_of s = tables s.n s.k s.lengths s.paths s.reach s.distance s.closed

-- a setting over the tables of t, with these anchors
abbrev pub with_anchors : Setting → ℕ → List ℕ → Ends → Setting
with_anchors t count numbers ends = record {
  n = t.n;
  k = t.k;
  count = count;
  lengths = t.lengths;
  paths = t.paths;
  reach = t.reach;
  distance = t.distance;
  closed = t.closed;
  numbers = numbers;
  ends = ends;
}

-- the row of a vertex stands in the list, if it is that of any
abbrev pub Stands : Setting → Option ℕ → List ℕ → Type 0
Stands s u row = MatchOption u (Unit {0}) (λ v. row ≡ row_in s v)
