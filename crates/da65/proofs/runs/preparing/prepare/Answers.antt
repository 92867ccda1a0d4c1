use Rattle.std.proofs.Common.{◌∙◌}
use Rattle.da65.specs.Words.{files_seen, info_message}
use Rattle.da65.proofs.Outcomes.IncludeLemmas.{listed_as, stops_first}
use Rattle.da65.proofs.runs.preparing.prepare.Goals as goal

pub returns-in-Ok-add_includes : goal.returns-in-Ok-add_includes
returns-in-Ok-add_includes g c defined gives = listed_as (files_seen c.args.files.now) c.in-Ok.info c.args.read defined c.in-Ok.is gives ∙ c.in-Ok-add_includes.ensures

pub returns-in-Err-add_includes : goal.returns-in-Err-add_includes
returns-in-Err-add_includes g c defined gives = rw (listed_as (files_seen c.args.files.now) c.in-Ok.info c.args.read defined c.in-Ok.is gives) c.in-Err-add_includes.ensures

pub returns-in-Err : goal.returns-in-Err
returns-in-Err g c defined gives = stops_first c.stop_of.result (files_seen c.args.files.now) defined (c.stop_of.ensures.stops info_message defined c.info_message.ensures (rw c.in-Err.is at gives))
