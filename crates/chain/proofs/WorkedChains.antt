-- Document 01's worked cases of chains, proved of the definitions. Assumes nothing.
use Prim.Native.Nat.{ℕ, zero, suc, ◌+◌, ◌≤◌}
use mathlib.Core.Path.{◌≡◌, refl}
use mathlib.Core.Logic.{inr}
use mathlib.Core.Bool.{true}
use mathlib.Core.List.{List, [], ◌∷◌, flatten, Memᴰ}
use native.Mathlib.Decide.{ℕ_discrete, dec_le}
use native.Mathlib.Nat.{le_refl}
use native.Mathlib.Omega.{arith}
use lib.ListN.{length}
use lib.IntN.{pos, negsuc}
use Rattle.wire.specs.Letters.{is_letter, letter_of, agree}
use Rattle.wire.specs.Sizes.{most_read, most_anchors}
use Rattle.rounds.specs.Rounds.{Within, sweep, Rounds}
use Rattle.rounds.specs.Gather.{gather}
use Rattle.rounds.specs.Rule.{value}
use Rattle.rounds.specs.Table.{entry, cell_step}
use Rattle.rounds.specs.Kinds.{closer}
use Rattle.rounds.proofs.Upto.{within, within_none}
use Rattle.rounds.proofs.Counts.{run_shows, run, list?}
use Rattle.graph.specs.Content.{Graph, vertex_count}
use Rattle.graph.specs.Good.{All, Next, Vertex, GoodGraph}
use Rattle.anchors.specs.Anchors.{Anchor, AnchorSet}
use Rattle.anchors.specs.AnchorRules.{no_anchor, agree_from, letters_agree, own_fault, key_below}
use Rattle.anchors.specs.GoodAnchors.{GoodAnchors}
use Rattle.cover.specs.Walks.{L, from, to, here}
use Rattle.cover.specs.Cells.{vertex, IsClosed}
use Rattle.cover.specs.CoverDistance.{path_at, IsCover}
use Rattle.cover.specs.TableEntries.{Tables, IsTables}
use Rattle.cover.specs.Row.{unknown, put, below, back, backs, row_for}
use Rattle.cover.specs.Worked.{g1, g2}
use Rattle.cover.proofs.WalkLaws.{goes_first}
use Rattle.cover.proofs.RowLaws.{unknown-size, unknown-entry}
use Rattle.cover.proofs.CoverLaws.{row_is}
use Rattle.cover.proofs.TablesThere.{reach-cells, distance-cells}
use Rattle.cover.proofs.WorkedGood.{g1-good, g2-good}
use Rattle.cover.proofs.WorkedTables.{g1-tables, g2-tables, g2_cover}
use Rattle.chain.specs.Steps.{anchor_at, across}
use Rattle.chain.specs.Chains.{score}
use Rattle.chain.specs.Sweep.{IsSteps, weights, sweep_round}
use Rattle.chain.specs.WorkedAnchors.{acttca, acttca_result, first_third, first_third_result, Candidate, ccgcc, ccgcc_result, acc, acc_result, alone, alone_result, looped, looped_result, aaa, Works}
use Rattle.chain.proofs.StepLaws.{jump-one}
use Rattle.chain.proofs.WorkedSteps.{each, each_two, faultless, faultless_rises, step-across, step-round, Known, is_known, gaps_in, complete, level, known_steps, no_steps, gives, goes_back, in_order, highest, works}

-- a cover distance, by the row computed from the tables
cover_by : {g : Graph} {t : Tables} → GoodGraph g → IsTables g t → (u v s : ℕ) → Within (vertex_count g) u → Within (vertex_count g) v
    → entry u (row_for g t.reach t.distance v (unknown (vertex_count g))) ≡ suc s → IsCover g u v s
cover_by {g} G T u v s wu wv e =
    ((row_is G (reach-cells T) (distance-cells T) v wv (unknown (vertex_count g)) (rw unknown-size (le_refl _)) (λ u _. unknown-entry (vertex_count g) u)).entries u wu).some s e

-- good anchors, by their letters and the test of each
good_by : {g : Graph} (a : AnchorSet) → 1 ≤ length a.read → length a.read ≤ most_read → All (λ b. is_letter b ≡ true) a.read
    → length a.anchors ≤ most_anchors → faultless g a.read no_anchor a.anchors ≡ true → GoodAnchors g a
good_by {g} a l h letters few t =
    let (each, rise) = faultless_rises g a.read a.anchors t in
    record { some_read = l; few_read = h; letters = letters; few_anchors = few; each = each; rise = rise }

-- ---- "G2, read CCGCC, anchors (v x c length weight) 2 1 1 2 2; 2 1 4 2 2; 3 1 3 1 1: score 5, chain 1 3 2, three rounds."

g2-two_three : IsCover g2 2 3 2
unfolding unknown put below back backs path_at vertex L closer
g2-two_three = cover_by g2-good g2-tables 2 3 2 (within (omega arith) (omega arith)) (within (omega arith) (omega arith)) refl

g2_three_two : IsCover g2 3 2 1
unfolding unknown put below back backs path_at vertex L closer
g2_three_two = cover_by g2-good g2-tables 3 2 1 (within (omega arith) (omega arith)) (within (omega arith) (omega arith)) refl

g2-round : IsClosed g2 2 3
g2-round = g2-tables.closed_cells 2 (within (omega arith) (omega arith))

ccgcc-good : GoodAnchors g2 ccgcc
unfolding All is_letter letter_of agree faultless own_fault letters_agree agree_from key_below
ccgcc-good = good_by ccgcc (omega arith) (omega arith) (refl, (refl, (refl, (refl, (refl, tt))))) (omega arith) refl

-- 1 to 3 and 3 to 2 without gaps; 1 to 2 round vertex 2, with gaps of 1 and 1
ccgcc_steps : List Known
ccgcc_steps = record { i = 1; j = 3; k = 0 } ∷ record { i = 3; j = 2; k = 0 } ∷ record { i = 1; j = 2; k = 2 } ∷ []

ccgcc_steps_lem : IsSteps g2 ccgcc.anchors (gaps_in ccgcc_steps)
unfolding ccgcc_steps All gaps_in complete each_two each
ccgcc_steps_lem = known_steps g2 ccgcc.anchors ccgcc_steps (
  is_known refl (step-across 2 g2-good (λ e. omega arith) g2-two_three (omega arith) (omega arith)),
  (
    is_known refl (step-across 1 g2-good (λ e. omega arith) g2_three_two (omega arith) (omega arith)),
    (is_known refl (step-round 3 refl (omega arith) g2-round (omega arith) (omega arith)), tt),
  ),
) refl

ccgcc-rounds : Rounds (sweep_round ccgcc.anchors (gaps_in ccgcc_steps)) (weights ccgcc.anchors) 3 (2 ∷ 5 ∷ 3 ∷ [])
unfolding ccgcc_steps gaps_in run sweep cell_step value gather ℕ_discrete dec_le list?
ccgcc-rounds = run_shows (sweep_round ccgcc.anchors (gaps_in ccgcc_steps)) (list? ℕ_discrete) 4 (weights ccgcc.anchors) (le_refl 4)

pub ccgcc_works : Works g2 ccgcc ccgcc_result
unfolding ccgcc_steps gaps_in each gives goes_back in_order highest
ccgcc_works = works g2-good ccgcc-good ccgcc_steps_lem ccgcc-rounds 2 (3 ∷ 1 ∷ []) (within (omega arith) (omega arith)) refl refl

-- ---- "G2, read ACC, anchors 1 1 1 1 1; 2 1 2 2 2: cover distance 4, score 2, chain 2."

acc-good : GoodAnchors g2 acc
unfolding All is_letter letter_of agree faultless own_fault letters_agree agree_from key_below
acc-good = good_by acc (omega arith) (omega arith) (refl, (refl, (refl, tt))) (omega arith) refl

-- 1 to 2 with a graph gap of 3
acc_steps : List Known
acc_steps = record { i = 1; j = 2; k = 3 } ∷ []

acc_steps_lem : IsSteps g2 acc.anchors (gaps_in acc_steps)
unfolding acc_steps All gaps_in complete each_two each
acc_steps_lem = known_steps g2 acc.anchors acc_steps (is_known refl (step-across 4 g2-good (λ e. omega arith) g2_cover (omega arith) (omega arith)), tt) refl

acc-rounds : Rounds (sweep_round acc.anchors (gaps_in acc_steps)) (weights acc.anchors) 1 (1 ∷ 2 ∷ [])
unfolding acc_steps gaps_in run sweep cell_step value gather ℕ_discrete dec_le list?
acc-rounds = run_shows (sweep_round acc.anchors (gaps_in acc_steps)) (list? ℕ_discrete) 2 (weights acc.anchors) (le_refl 2)

pub acc_works : Works g2 acc acc_result
unfolding acc_steps gaps_in each gives goes_back in_order highest
acc_works = works g2-good acc-good acc_steps_lem acc-rounds 2 [] (within (omega arith) (omega arith)) refl refl

-- ---- "One vertex A, read AAA, three anchors of weight 1: score 1, chain 1"

one-covered : (v : ℕ) → Vertex 1 v → (p : List ℕ) × Memᴰ p ((1 ∷ []) ∷ []) × Memᴰ v p
one-covered zero w = absurd (omega arith)
one-covered (suc zero) w = (_, Memᴰ.head refl, Memᴰ.head refl)
one-covered (suc (suc v)) w = absurd (omega arith)

alone-good : GoodGraph alone
unfolding All Next flatten is_letter letter_of
alone-good = record {
  some_vertex = omega arith;
  few_vertices = omega arith;
  some_letter = (omega arith, tt);
  few_letters = omega arith;
  letters = ((refl, tt), tt);
  few_edges = omega arith;
  edge_ends = tt;
  edges_rise = tt;
  some_path = omega arith;
  few_paths = omega arith;
  path_lengths = ((omega arith, omega arith), tt);
  path_vertices = (((omega arith, omega arith), tt), tt);
  paths_rise = (tt, tt);
  path_steps = (tt, tt);
  covered = one-covered;
}

alone-aaa : GoodAnchors alone aaa
unfolding All is_letter letter_of agree faultless own_fault letters_agree agree_from key_below
alone-aaa = good_by aaa (omega arith) (omega arith) (refl, (refl, (refl, tt))) (omega arith) refl

-- no edge, no walk; and no anchor ends before another begins
alone_steps : IsSteps alone aaa.anchors (gaps_in [])
unfolding level each_two each
alone_steps = no_steps alone aaa.anchors (λ u v l x. within_none x.edge.listed) refl

alone-rounds : Rounds (sweep_round aaa.anchors (gaps_in [])) (weights aaa.anchors) 1 (1 ∷ 1 ∷ 1 ∷ [])
unfolding gaps_in run sweep cell_step value gather ℕ_discrete dec_le list?
alone-rounds = run_shows (sweep_round aaa.anchors (gaps_in [])) (list? ℕ_discrete) 2 (weights aaa.anchors) (le_refl 2)

pub alone_works : Works alone aaa alone_result
unfolding gaps_in each gives goes_back in_order highest
alone_works = works alone-good alone-aaa alone_steps alone-rounds 1 [] (within (omega arith) (omega arith)) refl refl

-- ---- "with an edge to itself, score 3, chain 1 2 3."

looped-good : GoodGraph looped
unfolding All Next flatten is_letter letter_of
looped-good = record {
  some_vertex = omega arith;
  few_vertices = omega arith;
  some_letter = (omega arith, tt);
  few_letters = omega arith;
  letters = ((refl, tt), tt);
  few_edges = omega arith;
  edge_ends = (((omega arith, omega arith), (omega arith, omega arith)), tt);
  edges_rise = tt;
  some_path = omega arith;
  few_paths = omega arith;
  path_lengths = ((omega arith, omega arith), tt);
  path_vertices = (((omega arith, omega arith), tt), tt);
  paths_rise = (tt, tt);
  path_steps = (tt, tt);
  covered = one-covered;
}

looped-aaa : GoodAnchors looped aaa
unfolding All is_letter letter_of agree faultless own_fault letters_agree agree_from key_below
looped-aaa = good_by aaa (omega arith) (omega arith) (refl, (refl, (refl, tt))) (omega arith) refl

-- the edge alone is the closed walk
looped-round : IsClosed looped 1 1
unfolding L from to
looped-round = record {
  attained = inr (record { last = 1; before = 0; walk = here; edge = record { number = 1; listed = within (omega arith) (omega arith); leaves = refl; enters = refl }; long = refl });
  least = λ l x. goes_first x;
}

-- each to the next without gaps; 1 to 3 with a read gap of 1
looped_steps : List Known
looped_steps = record { i = 1; j = 2; k = 0 } ∷ record { i = 2; j = 3; k = 0 } ∷ record { i = 1; j = 3; k = 1 } ∷ []

looped_steps_lem : IsSteps looped aaa.anchors (gaps_in looped_steps)
unfolding looped_steps All gaps_in complete each_two each
looped_steps_lem = known_steps looped aaa.anchors looped_steps (
  is_known refl (step-round 1 refl (omega arith) looped-round (omega arith) (omega arith)),
  (
    is_known refl (step-round 1 refl (omega arith) looped-round (omega arith) (omega arith)),
    (is_known refl (step-round 1 refl (omega arith) looped-round (omega arith) (omega arith)), tt),
  ),
) refl

looped-rounds : Rounds (sweep_round aaa.anchors (gaps_in looped_steps)) (weights aaa.anchors) 2 (1 ∷ 2 ∷ 3 ∷ [])
unfolding looped_steps gaps_in run sweep cell_step value gather ℕ_discrete dec_le list?
looped-rounds = run_shows (sweep_round aaa.anchors (gaps_in looped_steps)) (list? ℕ_discrete) 3 (weights aaa.anchors) (le_refl 3)

pub looped_works : Works looped aaa looped_result
unfolding looped_steps gaps_in each gives goes_back in_order highest
looped_works = works looped-good looped-aaa looped_steps_lem looped-rounds 3 (2 ∷ 1 ∷ []) (within (omega arith) (omega arith)) refl refl

-- ---- G1 with the anchors of its listing

g1-one_three : IsCover g1 1 3 2
unfolding unknown put below back backs path_at vertex L closer
g1-one_three = cover_by g1-good g1-tables 1 3 2 (within (omega arith) (omega arith)) (within (omega arith) (omega arith)) refl

g1_three_four : IsCover g1 3 4 2
unfolding unknown put below back backs path_at vertex L closer
g1_three_four = cover_by g1-good g1-tables 3 4 2 (within (omega arith) (omega arith)) (within (omega arith) (omega arith)) refl

g1-one_four : IsCover g1 1 4 3
unfolding unknown put below back backs path_at vertex L closer
g1-one_four = cover_by g1-good g1-tables 1 4 3 (within (omega arith) (omega arith)) (within (omega arith) (omega arith)) refl

acttca-good : GoodAnchors g1 acttca
unfolding All is_letter letter_of agree faultless own_fault letters_agree agree_from key_below
acttca-good = good_by acttca (omega arith) (omega arith) (refl, (refl, (refl, (refl, (refl, (refl, tt)))))) (omega arith) refl

-- each to the next without gaps; 1 to 3 with gaps of 2 and 1
acttca_steps : List Known
acttca_steps = record { i = 1; j = 2; k = 0 } ∷ record { i = 2; j = 3; k = 0 } ∷ record { i = 1; j = 3; k = 3 } ∷ []

acttca_steps_lem : IsSteps g1 acttca.anchors (gaps_in acttca_steps)
unfolding acttca_steps All gaps_in complete each_two each
acttca_steps_lem = known_steps g1 acttca.anchors acttca_steps (
  is_known refl (step-across 2 g1-good (λ e. omega arith) g1-one_three (omega arith) (omega arith)),
  (
    is_known refl (step-across 2 g1-good (λ e. omega arith) g1_three_four (omega arith) (omega arith)),
    (is_known refl (step-across 3 g1-good (λ e. omega arith) g1-one_four (omega arith) (omega arith)), tt),
  ),
) refl

acttca-rounds : Rounds (sweep_round acttca.anchors (gaps_in acttca_steps)) (weights acttca.anchors) 2 (2 ∷ 4 ∷ 6 ∷ [])
unfolding acttca_steps gaps_in run sweep cell_step value gather ℕ_discrete dec_le list?
acttca-rounds = run_shows (sweep_round acttca.anchors (gaps_in acttca_steps)) (list? ℕ_discrete) 3 (weights acttca.anchors) (le_refl 3)

pub acttca_works : Works g1 acttca acttca_result
unfolding acttca_steps gaps_in each gives goes_back in_order highest
acttca_works = works g1-good acttca-good acttca_steps_lem acttca-rounds 3 (2 ∷ 1 ∷ []) (within (omega arith) (omega arith)) refl refl

-- ---- "G1's read with its first and third anchors only: the gaps are 2 and 1, the candidate 1, the score 2, the chain the first alone, one round."

first_third_good : GoodAnchors g1 (first_third 2)
unfolding All is_letter letter_of agree faultless own_fault letters_agree agree_from key_below
first_third_good = good_by (first_third 2) (omega arith) (omega arith) (refl, (refl, (refl, (refl, (refl, (refl, tt)))))) (omega arith) refl

-- 1 to 2 with gaps of 2 and 1, whatever the weight
module _ (weight : ℕ) where
  abbrev first : Anchor
  first = anchor_at (first_third weight).anchors 1

  abbrev third : Anchor
  third = anchor_at (first_third weight).anchors 2

  first_third_lem : Candidate g1 first third 2 1 (score (weight + weight) 3)
  first_third_lem = record {
    step = step-across 3 g1-good (λ e. omega arith) g1-one_four (omega arith) (omega arith);
    gaps = λ k s.
        let e : s.s ≡ 3 = jump-one g1 first third s.s 3 s.jump (across (λ e. omega arith) g1-one_four) in
        (omega (arith, s.in_read), omega (arith, s.in_graph));
    is = refl;
  }

pub first_third_candidate : Candidate g1 (anchor_at (first_third 2).anchors 1) (anchor_at (first_third 2).anchors 2) 2 1 (pos 1)
first_third_candidate = first_third_lem 2

-- "With weights 1 the candidate is −1."
pub first_third_below : Candidate g1 (anchor_at (first_third 1).anchors 1) (anchor_at (first_third 1).anchors 2) 2 1 (negsuc 0)
first_third_below = first_third_lem 1

first_third_steps : List Known
first_third_steps = record { i = 1; j = 2; k = 3 } ∷ []

first_third_steps_lem : IsSteps g1 (first_third 2).anchors (gaps_in first_third_steps)
unfolding first_third_steps All gaps_in complete each_two each
first_third_steps_lem = known_steps g1 (first_third 2).anchors first_third_steps (is_known refl (first_third_lem 2).step, tt) refl

first_third_rounds : Rounds (sweep_round (first_third 2).anchors (gaps_in first_third_steps)) (weights (first_third 2).anchors) 1 (2 ∷ 2 ∷ [])
unfolding first_third_steps gaps_in run sweep cell_step value gather ℕ_discrete dec_le list?
first_third_rounds = run_shows (sweep_round (first_third 2).anchors (gaps_in first_third_steps)) (list? ℕ_discrete) 2 (weights (first_third 2).anchors) (le_refl 2)

pub first_third_works : Works g1 (first_third 2) first_third_result
unfolding first_third_steps gaps_in each gives goes_back in_order highest
first_third_works = works g1-good first_third_good first_third_steps_lem first_third_rounds 1 [] (within (omega arith) (omega arith)) refl refl
