use Rattle.std.proofs.Common.{rules, ◌≡◌, Err}
use Rattle.da65_cli.proofs.DeliveryLemmas.{given_up}
use Rattle.da65_cli.proofs.listing.flush_then_report.Goals as goal

pub returns-in_err-status-clause-text : goal.returns-in_err-status-clause-text
returns-in_err-status-clause-text g c =
    let is : c.from_residual.result ≡ Err c.in_err-status.field-0.0 = search rules in
    rw is (given_up c.args.was c.in_err-status.field-0.0 _ _ _ _ c.in_err-status.was c.requires)
