use Rattle.std.proofs.Common.{◌≡◌}
use Rattle.helm.specs.Stored.{with_numbers, with_parts}
use Rattle.helm.specs.Machines.{helm_blank}
use Rattle.helm.proofs.machines.Helm.new.Goals as goal

pub returns : goal.returns
returns c =
    let d = c.default.ensures in
    let n : c.default.result ≡ helm_blank.numbers =
    λ i.
    record {
      phase = d.0 i;
      attempt = d.1.0 i;
      due = d.1.1.0 i;
      wanted = d.1.1.1.0 i;
      owed = d.1.1.1.1.0 i;
      fresh = d.1.1.1.1.1.0 i;
      list = d.1.1.1.1.1.1.0 i;
      proprietary = d.1.1.1.1.1.1.1.0 i;
      known = d.1.1.1.1.1.1.1.1.0 i;
      saved = d.1.1.1.1.1.1.1.1.1.0 i;
      present = d.1.1.1.1.1.1.1.1.1.1.0 i;
      refused = d.1.1.1.1.1.1.1.1.1.1.1.0 i;
      read = d.1.1.1.1.1.1.1.1.1.1.1.1.0 i;
      complete = d.1.1.1.1.1.1.1.1.1.1.1.1.1.0 i;
      told = d.1.1.1.1.1.1.1.1.1.1.1.1.1.1.0 i;
      version = d.1.1.1.1.1.1.1.1.1.1.1.1.1.1.1.0 i;
      blank = d.1.1.1.1.1.1.1.1.1.1.1.1.1.1.1.1 i;
    } in
    λ i. with_parts (with_numbers helm_blank (n i)) (c.new.ensures i)
