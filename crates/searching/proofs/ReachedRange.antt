-- Laws of the search: what is reached at its start and with one job more, and what stays scanned. The reached intervals
-- stay one range, because the window of a job with a share in it overlaps it.
-- Assumes nothing.
use mathlib.Core.Path.{◌≡◌, sym, ◌∙◌}
use mathlib.Core.Logic.{◌⊎◌, inl, inr}
use Prim.Native.Nat.{ℕ, suc, ◌<◌, ◌≤◌, min, max}
use native.Mathlib.Nat.{eq-or-lt_of_le, le_of_suc-le-suc}
use native.Mathlib.Omega.{arith}
use Rattle.model.specs.Plans.{Shares}
use Rattle.model.proofs.Numbers.{lt_or_le}
use Rattle.workloads.specs.Placement.{Problem, SoundProblem, Open, OnlyOpen}
use Rattle.searching.specs.Reached.{Appended, IsListed, Reached, Scanned}
use Rattle.searching.proofs.Listing.{listed_kept, few_differ}

module _ {p : Problem} {shares : Shares} where
  -- an interval stays scanned when the list grows
  pub scanned_kept : {band count more i : ℕ} {reached after : ℕ → ℕ} → count ≤ more → ((s : ℕ) → s < count → after s ≡ reached s)
      → Scanned p shares band count reached i → Scanned p shares band more after i
  scanned_kept longer same scanned =
      record { full = scanned.full; listed = λ j below share. listed_kept longer same (scanned.listed j below share) }

  module _ {job count start end : ℕ} {reached source : ℕ → ℕ} (now : Reached p shares job count reached source start end) where
    -- no more jobs are reached than there are
    pub reached_few : count ≤ p.jobs
    reached_few = few_differ p.jobs count reached now.job_below now.differ

    -- an interval in which a reached job is open is reached
    pub reached_open : {i s : ℕ} → s < count → Open p i (reached s) → (start ≤ i) × (i < end)
    reached_open {i} {s} below is_open_true = omega (arith, now.from_start s below, now.to_end s below)

module _ {p : Problem} (sound : SoundProblem p) {shares : Shares} where
  -- at the start only the job being placed is reached
  pub reached_start : {job : ℕ} → job < p.jobs → (reached source : ℕ → ℕ) → reached 0 ≡ job
      → Reached p shares job 1 reached source (p.first job) (p.last job)
  reached_start {job} below reached source origin =
      let only : (s : ℕ) → s < 1 → reached s ≡ job = λ s h. let e : s ≡ 0 = omega arith in rw e origin in
      record {
        some = omega arith;
        origin = origin;
        job_below = λ s h. rw (only s h) below;
        differ = λ r s less h same. omega arith;
        end_below = sound.inside job below;
        from_start = λ s h. rw (only s h) (omega arith);
        to_end = λ s h. rw (only s h) (omega arith);
        covered = λ i from to. (0, omega arith, rw origin (record { from = from; to = to }));
        source_below = λ s more h. absurd (omega arith);
        source_share = λ s more h. absurd (omega arith);
        source_reached = λ s more h. absurd (omega arith);
      }

  module _ {job count start end : ℕ} {reached source : ℕ → ℕ} (now : Reached p shares job count reached source start end) where
    -- one job more, which has a share in a reached interval
    module _
        (shut : OnlyOpen p shares) {i j : ℕ}
        (from : start ≤ i) (to : i < end) (below : j < p.jobs) (share : 0 < shares i j) (new : IsListed count reached j → ⊥)
        {jobs-after sources-after : ℕ → ℕ} (jobs_more : Appended count reached jobs-after j) (sources-more : Appended count source sources-after i)
      where
        is_open_true : Open p i j
        is_open_true = shut i j (omega (arith, now.end_below)) below share

        -- what holds of each job listed before and of the new one holds of each
        each : (P : (s job source : ℕ) → Type 0) → ((s : ℕ) → s < count → P s (reached s) (source s)) → P count j i
            → (s : ℕ) → s < suc count → P s (jobs-after s) (sources-after s)
        each P old last s inside = go (eq-or-lt_of_le (le_of_suc-le-suc inside))
          where
            go : (s ≡ count) ⊎ (s < count) → P s (jobs-after s) (sources-after s)
            go (inl e) = rw (e, jobs_more.here, sources-more.here) last
            go (inr h) = rw (jobs_more.same s h, sources-more.same s h) (old s h)

        -- an interval in which one of the jobs listed before is open
        open_before : {s k : ℕ} → s < count → Open p k (reached s) → Open p k (jobs-after s)
        open_before {s} h o = rw (jobs_more.same s h) o

        covered_more : (k : ℕ) → min start (p.first j) ≤ k → k < max end (p.last j) → (s : ℕ) × (s < suc count) × Open p k (jobs-after s)
        covered_more k low high = go (lt_or_le k start) (lt_or_le k end)
          where
            at_new : Open p k j → (s : ℕ) × (s < suc count) × Open p k (jobs-after s)
            at_new h = (count, omega arith, rw jobs_more.here h)

            go : (k < start) ⊎ (start ≤ k) → (k < end) ⊎ (end ≤ k) → (s : ℕ) × (s < suc count) × Open p k (jobs-after s)
            go (inl early) other = at_new (record { from = omega arith; to = omega (arith, is_open_true.to) })
            go (inr late) (inr past) = at_new (record { from = omega (arith, is_open_true.from); to = omega arith })
            go (inr late) (inl within) = let (s, h, o) = now.covered k late within in (s, omega arith, open_before h o)

        pub reached_more : Reached p shares job (suc count) jobs-after sources-after (min start (p.first j)) (max end (p.last j))
        reached_more =
            record {
              some = omega arith;
              origin = jobs_more.same 0 now.some ∙ now.origin;
              job_below = each (λ s r t. r < p.jobs) now.job_below below;
              differ = λ r s less h same.
                  each (λ s q t. r < s → jobs-after r ≡ q → ⊥)
                  (λ s h less same. now.differ r s less h (sym (jobs_more.same r (omega arith)) ∙ same))
                  (λ less same. new (r, less, sym (jobs_more.same r less) ∙ same))
                  s h less same;
              end_below = omega (arith, now.end_below, sound.inside j below);
              from_start = each (λ s r t. min start (p.first j) ≤ p.first r) (λ s h. omega (arith, now.from_start s h)) (omega arith);
              to_end = each (λ s r t. p.last r ≤ max end (p.last j)) (λ s h. omega (arith, now.to_end s h)) (omega arith);
              covered = covered_more;
              source_below = λ s more h.
                  each (λ s r t. 0 < s → t < p.intervals) (λ s h more. now.source_below s more h) (λ more. omega (arith, now.end_below)) s h more;
              source_share = λ s more h.
                  each (λ s r t. 0 < s → 0 < shares t r) (λ s h more. now.source_share s more h) (λ more. share) s h more;
              source_reached = λ s more h.
                  each (λ s r t. 0 < s → (r : ℕ) × (r < s) × Open p t (jobs-after r))
                  (λ s h more. let (r, less, o) = now.source_reached s more h in (r, less, open_before (omega arith) o))
                  (λ more. let (r, less, o) = now.covered i from to in (r, less, open_before less o))
                  s h more;
            }
