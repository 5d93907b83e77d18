-- `unglassot::version::unglassot_version` meets its contract: the definition's number.
use mathlib.Core.Path.{◌∙◌}
use Rattle.codes.proofs.Signed.{read_back}
use Rattle.unglassot.proofs.version.unglassot_version.Goals as goal

pub returns : goal.returns
returns c = read_back c.version.result c.version.type_inv ∙ c.version.ensures
