-- Every starred case of document 01 holds of the definitions. Assumes nothing.
use mathlib.Core.Path.{refl}
use Rattle.wire.specs.Numbers.{encode, number_at}
use Rattle.graph.specs.Good.{All}
use Rattle.graph.proofs.Starred.{empty-file, one-accepted, one_less, one_more, off_path}
use Rattle.cover.proofs.WorkedTables.{g1-tables, g2-tables, g2_cover}
use Rattle.chain.proofs.WorkedChains.{ccgcc_works, acc_works, alone_works, looped_works}
use Rattle.starred.specs.Cases.{AllStarred}

-- THE STARRED CASES HOLD
pub starred_hold : AllStarred
unfolding All encode number_at
starred_hold = (
  (refl, refl),
  (
    (refl, refl),
    (
      refl,
      (
        (refl, refl),
        (
          refl,
          (
            empty-file,
            (
              (_, one-accepted),
              (
                one_less,
                (
                  one_more,
                  (
                    off_path,
                    (
                      g1-tables,
                      (
                        g2-tables,
                        (
                          (_, ccgcc_works),
                          (
                            g2_cover,
                            (
                              (_, acc_works),
                              (
                                (_, alone_works),
                                (
                                  (_, looped_works),
                                  tt,
                                ),
                              ),
                            ),
                          ),
                        ),
                      ),
                    ),
                  ),
                ),
              ),
            ),
          ),
        ),
      ),
    ),
  ),
)
