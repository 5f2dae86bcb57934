use Rattle.update_codec.proofs.LimitLemmas.{attributes_fit, announcement_fits, withdrawal_fits}
use Rattle.update_codec.proofs.limits.limits_fit.Goals as goal

pub returns-clause-attributes : goal.returns-clause-attributes
returns-clause-attributes c = attributes_fit

pub returns-clause-announcement : goal.returns-clause-announcement
returns-clause-announcement c = announcement_fits

pub returns-clause-withdrawal : goal.returns-clause-withdrawal
returns-clause-withdrawal c = withdrawal_fits
