use Rattle.std.proofs.Common.{rules, ℕ, List, take, subst, ◌++◌, Result}
use Rattle.std.proofs.lemmas.Result.{err_from_is_err_and}
use Rattle.counted_devices.specs.DeviceStates.{states_since}
use Rattle.counted_devices.specs.declared.read_fault.ReadFault.{ReadFault}
use Rattle.counted_devices.proofs.Delivering.{Delivers-more, stops_late, stops_now}
use Rattle.line_files.specs.Ahead.{StandsAhead, GoesAhead}
use Rattle.line_files.specs.Batches.{IsBehind}
use Rattle.line_files.specs.declared.ahead.Ahead.{Ahead}
use Rattle.counted_devices.specs.FirstFaults.{faults_by}
use Rattle.line_files.proofs.Consuming.{Holds-device}
use Rattle.line_files.proofs.reading.read_next.Goals as goal

pub returns-in_err-next-clause-goes : goal.returns-in_err-next-clause-goes
returns-in_err-next-clause-goes g c = λ start holds.
    let p = err_from_is_err_and c.from_residual.result c.from_residual.ensures.1 in
    let reader = states_since start g.R.Read.remaining g.R.Counted.failures c.args.reader.now c.read_on-next.new.reader in
    let block = take c.read_on-next.result.1.count c.read_on-next.new.room in
    let P : List ℕ → Type 0 = λ bytes. StandsAhead g.C.Contents.Reads g.C.Contents.context g.C.Contents.Shows bytes c.args.ahead in
    let G : Result (Ahead g.row.C.Denot g.row.C-Item.Denot g.row.C-Fault.Denot) (ReadFault g.row.C-Fault.Denot) → Type 0 = λ r. (bytes : List ℕ) → P bytes → GoesAhead g.C.Contents.Reads g.C.Contents.context g.C.Contents.Shows g.C.Contents.rules (bytes ++ block) r in
    rw (p.1, p.2) (stops_now (faults_by g.C.Contents.rules) reader c.in_err-next.field-0.0 P (g.R.Read.remaining c.args.reader.now) block holds c.read_on-next.ensures.batch.bytes (subst G c.in_err-next.was c.read_on-next.ensures.goes))

pub returns-in-More-clause-goes : goal.returns-in-More-clause-goes
returns-in-More-clause-goes g c = λ start holds.
    let block = take c.read_on-next.result.1.count c.read_on-next.new.room in
    let P : List ℕ → Type 0 = λ bytes. StandsAhead g.C.Contents.Reads g.C.Contents.context g.C.Contents.Shows bytes c.args.ahead in
    let Q : List ℕ → Type 0 = λ bytes. StandsAhead g.C.Contents.Reads g.C.Contents.context g.C.Contents.Shows bytes c.in_ok-next.next in
    let G : Result (Ahead g.row.C.Denot g.row.C-Item.Denot g.row.C-Fault.Denot) (ReadFault g.row.C-Fault.Denot) → Type 0 = λ r. (bytes : List ℕ) → P bytes → GoesAhead g.C.Contents.Reads g.C.Contents.context g.C.Contents.Shows g.C.Contents.rules (bytes ++ block) r in
    Delivers-more P Q start (g.R.Read.remaining c.args.reader.now) (g.R.Read.remaining c.read_on-next.new.reader) block holds c.read_on-next.ensures.batch.bytes (subst G c.in_ok-next.was c.read_on-next.ensures.goes)

pub returns-in-End-clause-goes : goal.returns-in-End-clause-goes
returns-in-End-clause-goes g c = λ start holds.
    let block = take c.read_on-next.result.1.count c.read_on-next.new.room in
    let P : List ℕ → Type 0 = λ bytes. StandsAhead g.C.Contents.Reads g.C.Contents.context g.C.Contents.Shows bytes c.args.ahead in
    let Q : List ℕ → Type 0 = λ bytes. StandsAhead g.C.Contents.Reads g.C.Contents.context g.C.Contents.Shows bytes c.in_ok-next.next in
    let G : Result (Ahead g.row.C.Denot g.row.C-Item.Denot g.row.C-Fault.Denot) (ReadFault g.row.C-Fault.Denot) → Type 0 = λ r. (bytes : List ℕ) → P bytes → GoesAhead g.C.Contents.Reads g.C.Contents.context g.C.Contents.Shows g.C.Contents.rules (bytes ++ block) r in
    Delivers-more P Q start (g.R.Read.remaining c.args.reader.now) (g.R.Read.remaining c.read_on-next.new.reader) block holds c.read_on-next.ensures.batch.bytes (subst G c.in_ok-next.was c.read_on-next.ensures.goes)

pub returns-in_err-feed-in-Failure-clause-goes : goal.returns-in_err-feed-in-Failure-clause-goes
returns-in_err-feed-in-Failure-clause-goes g c = λ start holds.
    let p = err_from_is_err_and c.from_residual-in_err-feed-in-Failure.result c.from_residual-in_err-feed-in-Failure.ensures.1 in
    let reader = states_since start g.R.Read.remaining g.R.Counted.failures c.args.reader.now c.read_on-next.new.reader in
    let fault = c.in_err-feed-in-Failure.field-0.0 in
    let block = take c.read_on-next.result.1.count c.read_on-next.new.room in
    let P : List ℕ → Type 0 = λ bytes. StandsAhead g.C.Contents.Reads g.C.Contents.context g.C.Contents.Shows bytes c.args.ahead in
    let Q : List ℕ → Type 0 = λ bytes. StandsAhead g.C.Contents.Reads g.C.Contents.context g.C.Contents.Shows bytes c.in_ok-next.next in
    let G : Result (Ahead g.row.C.Denot g.row.C-Item.Denot g.row.C-Fault.Denot) (ReadFault g.row.C-Fault.Denot) → Type 0 = λ r. (bytes : List ℕ) → P bytes → GoesAhead g.C.Contents.Reads g.C.Contents.context g.C.Contents.Shows g.C.Contents.rules (bytes ++ block) r in
    let after = Delivers-more P Q start (g.R.Read.remaining c.args.reader.now) (g.R.Read.remaining c.read_on-next.new.reader) block holds c.read_on-next.ensures.batch.bytes (subst G c.in_ok-next.was c.read_on-next.ensures.goes) in
    rw (p.1, p.2) (stops_late (faults_by g.C.Contents.rules) reader fault Q after (λ bytes s. c.in_err-feed-in-Failure.ensures.becomes bytes s.0))

pub returns-in_ok-feed-in-Failure-clause-goes : goal.returns-in_ok-feed-in-Failure-clause-goes
returns-in_ok-feed-in-Failure-clause-goes g c = λ start holds.
    let laws = g.met.C.Contents g.world.𝓛 g.world.𝓜 g.world.𝓡 ((λ s x. x), (λ x. x), (λ x. x), λ x. x) in
    let left = g.R.Read.remaining c.read_on-next.new.reader in
    let feed = c.in_ok-feed-in-Failure.feed in
    let block = take c.read_on-next.result.1.count c.read_on-next.new.room in
    let P : List ℕ → Type 0 = λ bytes. StandsAhead g.C.Contents.Reads g.C.Contents.context g.C.Contents.Shows bytes c.args.ahead in
    let Q : List ℕ → Type 0 = λ bytes. StandsAhead g.C.Contents.Reads g.C.Contents.context g.C.Contents.Shows bytes c.in_ok-next.next in
    let G : Result (Ahead g.row.C.Denot g.row.C-Item.Denot g.row.C-Fault.Denot) (ReadFault g.row.C-Fault.Denot) → Type 0 = λ r. (bytes : List ℕ) → P bytes → GoesAhead g.C.Contents.Reads g.C.Contents.context g.C.Contents.Shows g.C.Contents.rules (bytes ++ block) r in
    let after = Delivers-more P Q start (g.R.Read.remaining c.args.reader.now) left block holds c.read_on-next.ensures.batch.bytes (subst G c.in_ok-next.was c.read_on-next.ensures.goes) in (
      Holds-device g.C.Contents.rules g.C.Contents.Reads laws.sound start left feed c.line.result (record { bytes = after.bytes; given = after.given; fact = c.in_ok-feed-in-Failure.ensures.becomes after.bytes after.fact.0 }) c.line.ensures,
      subst (λ b. IsBehind c.read_on-next.result.1.count b left (g.R.Counted.failures c.args.reader.now) (g.R.Counted.failures c.read_on-next.new.reader)) c.in-Failure.is c.read_on-next.ensures.batch.behind,
    )

pub returns-in-More-clause-end : goal.returns-in-More-clause-end
returns-in-More-clause-end g c = search rules
