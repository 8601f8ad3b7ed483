-- `site_of` meets its contract. Assumes nothing.
use Rattle.site.proofs.site_of.Goals as goal

pub returns : goal.returns
returns c = λ tables cycles holds.
    record {
      working_are = holds.working_are;
      top_is = holds.top_is;
      jobs_are = holds.jobs_are;
      zeros_past = holds.zeros_past;
      bounds_are = rw holds.jobs_are at (c.marked_bounds-bounds.ensures cycles);
    }
