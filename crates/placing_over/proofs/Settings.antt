-- From what lies in the buffers to the setting of an engine. Assumes nothing.
use Prim.Native.Nat.{ℕ, ◌-◌, ◌≤◌, ◌<◌}
use mathlib.Core.Path.{◌≡◌, refl, sym, ap, ◌∙◌}
use mathlib.Core.List.{List, []}
use native.Mathlib.Omega.{arith}
use lib.ListN.{length, get_or, take, length-take}
use lib.Seq.{get_or-take}
use Rattle.wire.specs.Sizes.{table_row, most_anchors, most_vertices}
use Rattle.wire.specs.Lent.{front}
use Rattle.rounds.specs.Rounds.{Within}
use Rattle.rounds.proofs.Upto.{within, within_none}
use Rattle.graph.specs.Content.{Graph, path_count}
use Rattle.graph.specs.Good.{All, Next}
use Rattle.anchors.specs.Anchors.{Anchor, AnchorSet, y, d}
use Rattle.cover.specs.CoverDistance.{path_at}
use Rattle.cover.specs.TableEntries.{Tables, IsTables}
use Rattle.cover.proofs.TablesThere.{reach-cells, distance-cells}
use Rattle.table_rounds.specs.Held as held
use Rattle.table_rounds.specs.Held.{path_in}
use Rattle.chain.specs.Steps.{anchor_at}
use Rattle.steps.specs.Setting.{Setting, Holds, Prepared, path_from}
use Rattle.steps.specs.Rowing.{tables_of, with_anchors}
use Rattle.steps.specs.Filling.{each_of, NumbersFit}
use Rattle.steps.proofs.EndsHeld.{numbers_fit, ends_held}
use Rattle.placing_over.specs.Lying.{TablesLie, Over}

module _ {g : Graph} {a : AnchorSet} {t : Setting} {count : ℕ} {numbers : List ℕ} (O : Over g a t count numbers) where
  -- there are few anchors and few vertices, and the anchors' numbers fit
  pub few-anchors : count ≤ most_anchors
  few-anchors = omega (arith, O.anchors.good.few_anchors, O.anchors.anchors_are)

  pub few-vertices : t.n ≤ most_vertices
  few-vertices = omega (arith, O.tables.good.few_vertices, O.tables.vertices)

  pub anchors_fit : NumbersFit count numbers
  anchors_fit = numbers_fit O.tables.good O.anchors.good count numbers O.anchors.anchors_are O.anchors.each O.anchors.room

  ends : (f : Anchor → ℕ) (old filled : List ℕ) → filled ≡ front (each_of f numbers count) old → (j : ℕ) → Within count j → get_or filled (j - 1) 0 ≡ f (anchor_at a.anchors j)
  ends = ends_held O.tables.good O.anchors.good count numbers O.anchors.anchors_are O.anchors.each

  -- with where the anchors end filled in, the setting is there
  pub over-holds : (us ys ds old_us old_ys old_ds : List ℕ) → us ≡ front (each_of (λ b. b.v) numbers count) old_us → ys ≡ front (each_of y numbers count) old_ys
      → ds ≡ front (each_of d numbers count) old_ds → count ≤ length us → count ≤ length ys → count ≤ length ds
      → Holds (with_anchors t count numbers (record { us = us; ys = ys; ds = ds })) g a
  over-holds us ys ds old_us old_ys old_ds eu ey ed lu ly ld = record {
    good = O.tables.good;
    good_anchors = O.anchors.good;
    vertices = O.tables.vertices;
    paths_are = O.tables.paths_are;
    anchors_are = O.anchors.anchors_are;
    length_room = O.tables.length_room;
    lengths = O.tables.labels_are;
    path_rooms = O.tables.path_rooms;
    paths = O.tables.paths_lie;
    reach = O.tables.reach_is;
    distance = O.tables.distance_is;
    closed_room = O.tables.closed_room;
    closed = O.tables.closed_is;
    number_room = O.anchors.room;
    numbers = O.anchors.each;
    us_room = lu;
    us = ends (λ b. b.v) old_us us eu;
    ys_room = ly;
    ys = ends y old_ys ys ey;
    ds_room = ld;
    ds = ends d old_ds ds ed;
  }

-- the tables of a setting are prepared where the setting is
pub tables_prepared : {s : Setting} → Prepared s → Prepared (tables_of s)
unfolding All Next
tables_prepared P =
    let H = P.holds in
    record {
      g = P.g;
      a = record { read = P.a.read; anchors = [] };
      holds = record {
        good = H.good;
        good_anchors = record {
          some_read = H.good_anchors.some_read;
          few_read = H.good_anchors.few_read;
          letters = H.good_anchors.letters;
          few_anchors = omega arith;
          each = tt;
          rise = tt;
        };
        vertices = H.vertices;
        paths_are = H.paths_are;
        anchors_are = refl;
        length_room = H.length_room;
        lengths = H.lengths;
        path_rooms = H.path_rooms;
        paths = H.paths;
        reach = H.reach;
        distance = H.distance;
        closed_room = H.closed_room;
        closed = H.closed;
        number_room = omega arith;
        numbers = λ j w. absurd (within_none w);
        us_room = omega arith;
        us = λ j w. absurd (within_none w);
        ys_room = omega arith;
        ys = λ j w. absurd (within_none w);
        ds_room = omega arith;
        ds = λ j w. absurd (within_none w);
      };
    }

-- what lies there is what rows are made of
pub over_tables : {g : Graph} {a : AnchorSet} {t : Setting} {count : ℕ} {numbers : List ℕ} → Over g a t count numbers → Prepared (tables_of t)
unfolding All Next
over_tables {g} {a} O = record {
  g = g;
  a = record { read = a.read; anchors = [] };
  holds = record {
    good = O.tables.good;
    good_anchors = record {
      some_read = O.anchors.good.some_read;
      few_read = O.anchors.good.few_read;
      letters = O.anchors.good.letters;
      few_anchors = omega arith;
      each = tt;
      rise = tt;
    };
    vertices = O.tables.vertices;
    paths_are = O.tables.paths_are;
    anchors_are = refl;
    length_room = O.tables.length_room;
    lengths = O.tables.labels_are;
    path_rooms = O.tables.path_rooms;
    paths = O.tables.paths_lie;
    reach = O.tables.reach_is;
    distance = O.tables.distance_is;
    closed_room = O.tables.closed_room;
    closed = O.tables.closed_is;
    number_room = omega arith;
    numbers = λ j w. absurd (within_none w);
    us_room = omega arith;
    us = λ j w. absurd (within_none w);
    ys_room = omega arith;
    ys = λ j w. absurd (within_none w);
    ds_room = omega arith;
    ds = λ j w. absurd (within_none w);
  };
}

-- with the tables made of content, they lie there
module _ {g : Graph} {n m k : ℕ} {lengths edges paths counts : List ℕ} (C : held.Holds g n m lengths edges paths counts) (K : path_count g ≡ k) where
  path-same : (i j : ℕ) → Within k i → j < length (path_at g i) → get_or (path_from paths i) j 0 ≡ get_or (path_at g i) j 0
  unfolding path_in
  path-same i j w l =
      let t : Within table_row i = within w.low (omega (arith, w.high, K, C.good.few_paths)) in
      let e : take (get_or counts (i - 1) 0) (path_from paths i) ≡ path_at g i = C.paths_are i t in
      sym (get_or-take (get_or counts (i - 1) 0) (path_from paths i) j 0 (short i j e l)) ∙ ap (λ (p : List ℕ). get_or p j 0) e
    where
      short : (i j : ℕ) → take (get_or counts (i - 1) 0) (path_from paths i) ≡ path_at g i → j < length (path_at g i) → j < get_or counts (i - 1) 0
      short i j e l = omega (arith, ap length e, length-take (get_or counts (i - 1) 0) (path_from paths i))

  pub tables_lie : (t : Tables) → IsTables g t → TablesLie g n k lengths paths t.reach t.distance t.closed
  tables_lie t T = record {
    good = C.good;
    vertices = C.vertices;
    paths_are = K;
    length_room = C.label_room;
    labels_are = C.labels;
    path_rooms = omega (arith, C.paths_room, K, C.good.few_paths);
    paths_lie = path-same;
    reach_is = reach-cells T;
    distance_is = distance-cells T;
    closed_room = omega (arith, T.closed_size, C.vertices);
    closed_is = λ v w. T.closed_cells v (within w.low (omega (arith, w.high, C.vertices)));
  }
