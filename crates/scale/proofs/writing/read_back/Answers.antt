use Rattle.scale.proofs.Printing.{round_trip}
use Rattle.scale.proofs.writing.read_back.Goals as goal

pub returns-clause-always : goal.returns-clause-always
returns-clause-always g c = round_trip g.met.S.Written.forms
