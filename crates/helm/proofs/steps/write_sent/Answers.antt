-- `helm::steps::write_sent` meets its contract.
use Rattle.std.proofs.Common.{refl}
use Rattle.tx_list.specs.Reading.{read1, enable, commit, activate}
use Rattle.tx_list.specs.Stored.{wire}
use Rattle.session.specs.WriteLaws.{wrote_one, wrote_pair}
use Rattle.helm.proofs.steps.write_sent.Goals as goal

pub returns-in_default : goal.returns-in_default
unfolding wire
returns-in_default c = rw c.in_default.is (refl, refl)

pub returns-in-ReadF1 : goal.returns-in-ReadF1
returns-in-ReadF1 c =
    rw (c.in-Some.is, c.in-ReadF1.is)
    (wrote_one c.args.out.now c.encode.result c.requires c.count_of.ensures read1 c.encode.ensures)

pub returns-in-ReadF2 : goal.returns-in-ReadF2
returns-in-ReadF2 c =
    rw (c.in-Some.is, c.in-ReadF2.is)
    (wrote_pair c.args.out.now c.encode-in-ReadF2.result c.requires c.count_of-in-ReadF2.ensures c.encode-in-ReadF2.ensures)

pub returns-in-Enable : goal.returns-in-Enable
returns-in-Enable c =
    rw (c.in-Some.is, c.in-Enable.is)
    (wrote_one c.args.out.now c.encode-in-Enable.result c.requires c.count_of-in-Enable.ensures (enable c.in-Enable.pgn) c.encode-in-Enable.ensures)

pub returns-in-Commit : goal.returns-in-Commit
returns-in-Commit c =
    rw (c.in-Some.is, c.in-Commit.is)
    (wrote_one c.args.out.now c.encode-in-Commit.result c.requires c.count_of-in-Commit.ensures commit c.encode-in-Commit.ensures)

pub returns-in-Activate : goal.returns-in-Activate
returns-in-Activate c =
    rw (c.in-Some.is, c.in-Activate.is)
    (wrote_one c.args.out.now c.encode-in-Activate.result c.requires c.count_of-in-Activate.ensures activate c.encode-in-Activate.ensures)

pub returns-in-GetProductInfo : goal.returns-in-GetProductInfo
unfolding wire
returns-in-GetProductInfo c = rw (c.in-Some.is, c.in-GetProductInfo.is) (refl, refl)

pub returns-in-GetOperatingMode : goal.returns-in-GetOperatingMode
unfolding wire
returns-in-GetOperatingMode c = rw (c.in-Some.is, c.in-GetOperatingMode.is) (refl, refl)

pub returns-in-SetOperatingMode : goal.returns-in-SetOperatingMode
unfolding wire
returns-in-SetOperatingMode c = rw (c.in-Some.is, c.in-SetOperatingMode.is) (refl, refl)

pub returns-in-GetPortPcode : goal.returns-in-GetPortPcode
unfolding wire
returns-in-GetPortPcode c = rw (c.in-Some.is, c.in-GetPortPcode.is) (refl, refl)

pub returns-in-SetPortPcode : goal.returns-in-SetPortPcode
unfolding wire
returns-in-SetPortPcode c = rw (c.in-Some.is, c.in-SetPortPcode.is) (refl, refl)
