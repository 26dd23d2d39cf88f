use Rattle.std.proofs.Common.{ℕ, ◌∙◌, ◌++◌, [], List, length-append, length, take, drop, refl, sym, ap, arith, subst}
use Rattle.std.specs.Io.KnownBytes.{Consumes}
use Rattle.std.specs.Prelude.{true, false, Bool}
use Rattle.std.proofs.lemmas.List.{length-take}
use Rattle.counted_devices.specs.DeviceStates.{states}
use Rattle.counted_devices.proofs.Consuming.{Consumes-none}
use Rattle.fault_details.specs.FoundLines.{Ends, IsScan}
use Rattle.fault_details.proofs.Scanning.{block_front, fed_on, finds_ended, finds_last, room_left, scans_more, scans_no_more}
use Rattle.fault_details.proofs.found_line.find_line.Goals as goal

pub reads-init : goal.reads-init
reads-init g c = record {
  scan = record { bytes = []; given = Consumes-none (g.R.Read.remaining c.args.reader.now); fact = c.new-scan.ensures.scan };
  wanted = c.new-scan.ensures.wanted;
  same = refl;
  few = c.new-scan.ensures.few;
  fed = omega (arith, c.new-scan.ensures.fed);
  some = omega (arith, c.in_ok-room.ensures.len, c.in_ok-room.room.ok.0);
}

pub returns-in-Ok-eq0 : goal.returns-in-Ok-eq0
returns-in-Ok-eq0 g c =
    let a = g.R.Read.remaining c.args.reader.now in
    let b = g.R.Read.remaining c.reads.reader in
    let left = g.R.Read.remaining c.read_counted.new.self in
    let none : Consumes b left [] =
    subst (λ (n : ℕ). Consumes b left (take n c.read_counted.new.block)) c.in-Ok-eq0.field-0-test c.in-Ok-eq0.ensures.bytes.0 in
    let long = ap (λ (xs : List ℕ). length xs) c.as_mut_slice.ensures.value in
    let end = c.in-Ok-eq0.ensures.bytes.1 c.in-Ok-eq0.field-0-test
    (omega (arith, c.read_counted.auto.block, long, c.reads.invariant.some)) in
    finds_last (states g.R.Read.remaining g.R.Counted.failures c.args.reader.now c.read_counted.new.self) c.args.number
    c.reads.scan.wanted c.reads.invariant.wanted c.reads.scan c.last_line.result
    (scans_no_more a b left c.reads.scan c.reads.invariant.scan none) end c.last_line.ensures

pub feed-requires-clause-room : goal.feed-requires-clause-room
feed-requires-clause-room g c =
    room_left c.reads.scan.fed (g.R.Counted.given c.reads.reader) (g.R.Counted.given c.read_counted.new.self) c.in-Ok.count
    c.deref.result.now c.reads.invariant.fed c.in-Ok.ensures.given (g.met.R.Counted.most_given c.read_counted.new.self)

pub returns-then-branch : goal.returns-then-branch
returns-then-branch g c =
    let a = g.R.Read.remaining c.args.reader.now in
    let b = g.R.Read.remaining c.reads.reader in
    let left = g.R.Read.remaining c.read_counted.new.self in
    let long = ap (λ (xs : List ℕ). length xs) c.as_mut_slice.ensures.value in
    let same = block_front c.in-Ok.count c.reads.room.len c.deref.result.now c.read_counted.new.block
    (drop (length c.read_counted.new.block) c.reads.room.items) c.deref.ensures.value c.in-Ok.ensures.bound.0
    (omega (arith, c.in-Ok.ensures.bound.0, c.read_counted.auto.block, long, c.reads.room.ok.0)) in
    let more = subst (λ (xs : List ℕ). Consumes b left xs) (sym same) c.in-Ok.ensures.bytes.0 in
    let goes = subst (λ (e : Bool). (before : List ℕ) → IsScan before c.reads.scan
    → Ends e (before ++ take c.in-Ok.count c.deref.result.now) c.feed.new.self) c.if-branch.true
    c.in_ok-feed-in-Ok.ensures.scan in
    let scanned = scans_more true a b left (take c.in-Ok.count c.deref.result.now) c.reads.scan c.feed.new.self
    c.reads.invariant.scan more goes in
    finds_ended (states g.R.Read.remaining g.R.Counted.failures c.args.reader.now c.read_counted.new.self) c.args.number
    c.feed.new.self.wanted (c.in_ok-feed-in-Ok.ensures.wanted ∙ c.reads.invariant.wanted) c.feed.new.self c.line.result
    scanned c.line.ensures.number (c.line.ensures.ended refl)

pub reads-preserved : goal.reads-preserved
reads-preserved g c =
    let a = g.R.Read.remaining c.args.reader.now in
    let b = g.R.Read.remaining c.reads.reader in
    let left = g.R.Read.remaining c.read_counted.new.self in
    let long = ap (λ (xs : List ℕ). length xs) c.as_mut_slice.ensures.value in
    let same = block_front c.in-Ok.count c.reads.room.len c.deref.result.now c.read_counted.new.block
    (drop (length c.read_counted.new.block) c.reads.room.items) c.deref.ensures.value c.in-Ok.ensures.bound.0
    (omega (arith, c.in-Ok.ensures.bound.0, c.read_counted.auto.block, long, c.reads.room.ok.0)) in
    let more = subst (λ (xs : List ℕ). Consumes b left xs) (sym same) c.in-Ok.ensures.bytes.0 in
    let goes = subst (λ (e : Bool). (before : List ℕ) → IsScan before c.reads.scan
    → Ends e (before ++ take c.in-Ok.count c.deref.result.now) c.feed.new.self) c.if-branch.false
    c.in_ok-feed-in-Ok.ensures.scan in
    record {
      scan = scans_more false a b left (take c.in-Ok.count c.deref.result.now) c.reads.scan c.feed.new.self
          c.reads.invariant.scan more goes;
      wanted = c.in_ok-feed-in-Ok.ensures.wanted ∙ c.reads.invariant.wanted;
      same = c.in-Ok.ensures.counted ∙ c.reads.invariant.same;
      few = c.in_ok-feed-in-Ok.ensures.few;
      fed = fed_on c.reads.scan.fed c.feed.new.self.fed (g.R.Counted.given c.reads.reader)
          (g.R.Counted.given c.read_counted.new.self) c.in-Ok.count c.deref.result.now c.reads.invariant.fed
          c.in-Ok.ensures.given c.in_ok-feed-in-Ok.ensures.fed;
      some = omega (
        arith,
        length-take c.reads.room.len (c.read_counted.new.block ++ drop (length c.read_counted.new.block) c.reads.room.items),
        length-append c.read_counted.new.block (drop (length c.read_counted.new.block) c.reads.room.items),
        c.read_counted.auto.block,
        long,
        c.reads.room.ok.0,
        c.reads.invariant.some,
      );
    }
