use Rattle.counted_devices.specs.DeviceStates.{states}
use Rattle.counted_devices.proofs.Delivering.{finish_read, finish_fault, finish_device}
use Rattle.counted_devices.specs.FirstFaults.{faults_by}
use Rattle.line_files.specs.Feeds.{StandsForLines}
use Rattle.line_files.proofs.reading.read_file.Goals as goal

pub returns-clause-read : goal.returns-clause-read
returns-clause-read g c =
    let reader = states g.R.Read.remaining g.R.Counted.failures c.args.reader.now c.feed_in_blocks.new.reader in
    finish_read (faults_by g.C.Contents.rules) (StandsForLines g.C.Contents.Reads) g.C.Contents.ReadsWhole reader c.in_ok-feed.feed c.finish.result c.in_ok-feed.ensures.holds c.finish.ensures.ends

pub returns-clause-fault : goal.returns-clause-fault
returns-clause-fault g c =
    let reader = states g.R.Read.remaining g.R.Counted.failures c.args.reader.now c.feed_in_blocks.new.reader in
    finish_fault (faults_by g.C.Contents.rules) (StandsForLines g.C.Contents.Reads) g.C.Contents.ReadsWhole reader c.in_ok-feed.feed c.finish.result c.in_ok-feed.ensures.holds c.finish.ensures.ends

pub returns-clause-device : goal.returns-clause-device
returns-clause-device g c =
    let reader = states g.R.Read.remaining g.R.Counted.failures c.args.reader.now c.feed_in_blocks.new.reader in
    finish_device (faults_by g.C.Contents.rules) (StandsForLines g.C.Contents.Reads) g.C.Contents.ReadsWhole reader c.in_ok-feed.feed c.finish.result c.in_ok-feed.ensures.holds c.finish.ensures.ends
