-- Laws of a pass over the jobs that raises prices in an array.
-- Assumes nothing.
use mathlib.Core.Path.{◌≡◌, refl, sym, ◌∙◌, ap}
use mathlib.Core.Bool.{Bool, true, false}
use mathlib.Core.Logic.{◌⊎◌, inl, inr}
use mathlib.Core.List.{List}
use Prim.Native.Nat.{ℕ, ◌+◌, ◌<◌, ◌≤◌}
use native.Mathlib.Omega.{arith}
use lib.ListN.{length}
use borrow.Author.Count.{below_none, below_more}
use Rattle.model.specs.Limits.{max_intervals}
use Rattle.model.specs.Plans.{shares_in}
use Rattle.model.proofs.Numbers.{true≢false, true_or_false}
use Rattle.workloads.specs.Workloads.{Workload}
use Rattle.workloads.specs.Arrays.{numbers_in, problem_in}
use Rattle.workloads.specs.Placement.{SmallestPriced}
use Rattle.prices.specs.RisingPrices.{Raised, LeastBand, HighestPrice, IsBelow, JobRaise, WindowStep, room_left, CanPrice, CanRise, RisePass}
use Rattle.prices.proofs.RaisedPrices.{raised_up}
use Rattle.prices.proofs.RisingPrices.{rising_start, rising_raised, room_falls, rising_fits}

-- a window with a price below one is raised to it
module _ {before : List ℕ} {first last price : ℕ} {below : Bool} (is_below : IsBelow (numbers_in before) first last price below) where
  pub window_raised : below ≡ true → {after : List ℕ} → Raised first last price (numbers_in before) (numbers_in after) → length after ≡ length before
      → WindowStep before after first last price true
  window_raised lower raised same_length =
      record {
        same_length = same_length;
        raised = λ e. raised;
        lower = λ e. is_below.found lower;
        same = λ e. absurd (true≢false e);
        none = λ e. absurd (true≢false e);
      }

  pub window_kept : below ≡ false → WindowStep before before first last price false
  window_kept none-lower =
      record {
        same_length = refl;
        raised = λ e. absurd (true≢false (sym e));
        lower = λ e. absurd (true≢false (sym e));
        same = λ e. refl;
        none = λ e. is_below.none none-lower;
      }

-- the least prices can rise
pub rise_start : {work : Workload} {table loads prices : List ℕ} → CanPrice work table loads → length prices ≡ max_intervals
    → ((i : ℕ) → i < work.intervals → LeastBand (numbers_in work.frequency) work.bands (numbers_in work.size i) (numbers_in loads i) (numbers_in prices i))
    → CanRise work table prices
rise_start {work} {table} {loads} {prices} can same_length least =
    record {
      sound = can.sound;
      table-length = can.stored.table-length;
      prices_length = same_length;
      fitting = can.fitting;
      priced = can.priced;
      rising = rising_start can.sound.sound can.priced (λ i inside. rw (← can.stored.loads_are i inside) (least i inside));
    }

module _ {work : Workload} {table before : List ℕ} (can : CanRise work table before) where
  -- no job yet
  pub pass_start : RisePass work table before before 0 false
  pass_start =
      record {
        prices_length = can.prices_length;
        risen = λ i. omega arith;
        rising = can.rising;
        falls = λ e. absurd (true≢false (sym e));
        same = λ e. refl;
        settled = λ e. below_none _;
      }

  module _ {prices : List ℕ} {job : ℕ} {changed : Bool} (pass : RisePass work table before prices job changed) where
    room_most : room_left work.intervals work.bands (numbers_in prices) ≤ room_left work.intervals work.bands (numbers_in before)
    room_most = go (true_or_false changed)
      where
        go : (changed ≡ true) ⊎ (changed ≡ false) → room_left work.intervals work.bands (numbers_in prices) ≤ room_left work.intervals work.bands (numbers_in before)
        go (inl e) = omega (arith, pass.falls e)
        go (inr e) = rw (pass.same e) (omega arith)

    module _ (below : job < work.jobs) {after : List ℕ} {price : ℕ} {raised : Bool}
        (highest : HighestPrice (shares_in work.jobs table) (numbers_in before) job 0 work.intervals price)
        (step : WindowStep prices after (numbers_in work.first job) (numbers_in work.last job) price raised) where
      -- the raise is one that the job forces: at the start of the pass it had a share at this price, and prices only rise
      forced : raised ≡ true → JobRaise (shares_in work.jobs table) (numbers_in prices) (numbers_in after) job (numbers_in work.first job) (numbers_in work.last job)
      forced e =
          let (low, low_first, low-last, less) = step.lower e in
          let (from, start, inside, share, is-price) = highest.held (omega arith) in
          let here = can.priced.shut from job inside below share in
          record {
            from = from;
            from_first = here.from;
            from_last = here.to;
            share = share;
            price = price;
            price_most = omega (arith, pass.risen from);
            raised = step.raised e;
            lower = low;
            lower_first = low_first;
            lower_last = low-last;
            is_lower = less;
          }

      pub pass_raised : raised ≡ true → RisePass work table before after (job + 1) true
      pass_raised e =
          record {
            prices_length = step.same_length ∙ pass.prices_length;
            risen = λ i. omega (arith, pass.risen i, raised_up (step.raised e) i);
            rising = rising_raised can.sound.sound can.priced pass.rising below (forced e);
            falls = λ t. omega (arith, room_falls can.sound.sound can.priced pass.rising below (forced e), room_most);
            same = λ t. absurd (true≢false t);
            settled = λ t. absurd (true≢false t);
          }

      -- where no job has forced a raise so far the job is settled
      pub pass_settled : raised ≡ false → RisePass work table before after (job + 1) changed
      pass_settled e =
          rw (step.same e)
          (record {
            prices_length = pass.prices_length;
            risen = pass.risen;
            rising = pass.rising;
            falls = pass.falls;
            same = pass.same;
            settled = λ t. below_more _ job (pass.settled t) (λ i other inside next share is_open_true. settled t i other inside share is_open_true.from is_open_true.to);
          })
        where
          settled : changed ≡ false → (i other : ℕ) → i < work.intervals → 0 < shares_in work.jobs table i job
              → numbers_in work.first job ≤ other → other < numbers_in work.last job → numbers_in prices i ≤ numbers_in prices other
          settled t i other inside share from to =
              let same : numbers_in prices i ≡ numbers_in before i = ap (λ (array : List ℕ). numbers_in array i) (pass.same t) in
              omega (arith, highest.most i (omega arith) inside share, step.none e other from to)

  -- after a pass
  module _ {after : List ℕ} {changed : Bool} (pass : RisePass work table before after work.jobs changed) where
    pub rise_again : CanRise work table after
    rise_again =
        record {
          sound = can.sound;
          table-length = can.table-length;
          prices_length = pass.prices_length;
          fitting = can.fitting;
          priced = can.priced;
          rising = pass.rising;
        }

    pub rise_end : changed ≡ false → SmallestPriced (problem_in work) (shares_in work.jobs table) (numbers_in after)
    rise_end e = rising_fits can.sound.sound can.priced pass.rising (pass.settled e)
