use Rattle.std.proofs.Common.{◌<◌, arith, length}
use Rattle.std.proofs.lemmas.Option.{slice_get-get_or}
use Rattle.reach65.proofs.TableLemmas.{firsts_more}
use Rattle.reach65.proofs.inlines.enter_all.Goals as goal

pub tags-preserved : goal.tags-preserved
tags-preserved c =
    let within : c.tags.k < length c.args.tags.now = omega arith in
    record {
      room = omega arith;
      found = firsts_more c.args.tags.now c.tags.k _ c.tags.firsts c.enter.new.firsts (slice_get-get_or _ c.tags.k _ within) c.enter.ensures.entered c.tags.invariant.found;
    }
