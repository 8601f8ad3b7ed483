-- Additions for jobs of document 01's sites and a few beside them, as one table. That every line holds is one statement, proved in
-- proofs/AdditionLines.antt by computing the definitions.
use Rattle.std.specs.Prelude.{◌≡◌, [], ◌∷◌}
use Rattle.model.specs.SiteLines.{job}
use Rattle.windows.specs.Additions.{additions_before, additions}

pub record AdditionLines : Type 0 where
  -- no jobs, and one
  pub no-jobs : additions [] ≡ 0
  pub one-job : additions (job 0 1 4 ∷ []) ≡ 1
  -- one release that two jobs have, or three: each is added once for it
  pub two_equal : additions (job 0 2 4 ∷ job 0 2 4 ∷ []) ≡ 2
  pub three_equal : additions (job 0 2 4 ∷ job 0 2 4 ∷ job 0 2 4 ∷ []) ≡ 3
  -- two releases: both jobs for the first, the later one alone for the second; the order of the table does not matter
  pub listed : additions (job 0 4 6 ∷ job 2 3 4 ∷ []) ≡ 3
  pub listed_backwards : additions (job 2 3 4 ∷ job 0 4 6 ∷ []) ≡ 3
  -- three jobs, two of them with one release: three for release 0, two for release 1
  pub two_releases_before : additions_before (job 1 5 4 ∷ job 0 4 6 ∷ job 1 3 4 ∷ []) 1 ≡ 3
  pub two_releases : additions (job 1 5 4 ∷ job 0 4 6 ∷ job 1 3 4 ∷ []) ≡ 5
