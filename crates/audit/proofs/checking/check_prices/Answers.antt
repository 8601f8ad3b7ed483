-- `checking::check_prices` meets its contract. Each way out rests on the verdict that led there, by the laws of proofs/SecondHalf.antt.
-- Assumes nothing.
use Rattle.std.proofs.lemmas.Result.{err_from_is_err_and}
use Rattle.audit.proofs.SecondHalf.{prices_refused, prices_passed}
use Rattle.audit.proofs.checking.check_prices.Goals as goal

pub returns-in_err-price : goal.returns-in_err-price
returns-in_err-price c site left =
    let told = err_from_is_err_and c.from_residual.result c.from_residual.ensures.1 in
    let judged = rw left.same_site at (c.price.ensures site.processor site.jobs left.points left.counted left.opened) in
    rw (told.1, told.2) (prices_refused site _ _ _ _ judged _ c.in_err-price.was)

pub returns : goal.returns
returns c site left =
    let judged = rw left.same_site at (c.price.ensures site.processor site.jobs left.points left.counted left.opened) in
    prices_passed site _ _ _ _ judged c.in_ok-price.was
