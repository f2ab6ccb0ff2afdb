use Rattle.rk_glob.proofs.Joined.{plain_fits_itself_alone, star_fits_everything, joined_fit_joined}
use Rattle.rk_glob.proofs.laws.Goals as goal

pub returns-clause-plain : goal.returns-clause-plain
returns-clause-plain c = plain_fits_itself_alone

pub returns-clause-anything : goal.returns-clause-anything
returns-clause-anything c = star_fits_everything

pub returns-clause-joined : goal.returns-clause-joined
returns-clause-joined c = joined_fit_joined
