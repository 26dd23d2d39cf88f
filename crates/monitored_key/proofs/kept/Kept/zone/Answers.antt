use Rattle.std.proofs.Common.{sym, ◌∙◌}
use Rattle.std.proofs.lemmas.Option.{none-some}
use Rattle.kept_zones.specs.Overwriting.{last_of}
use Rattle.monitored_key.specs.WritesOf.{kept_of}
use Rattle.monitored_key.proofs.Listing.{span_kept}
use Rattle.monitored_key.proofs.Maps.{found}
use Rattle.monitored_key.proofs.kept.Kept.zone.Goals as goal

pub unreachable-requires : goal.unreachable-requires
unreachable-requires c =
    let s = c.args.self.now in
    let end = c.in-Some-default-Some.end in
    let k = span_kept (kept_of s.writes c.args.number) c.in-Some-default-Some.begin c.in-Some-default-Some.field-0-1
    (c.span.ensures ∙ c.in-Some-default-Some.is) in
    let there = c.requires.together.zoned c.args.number end k.0 k.1 (k.3 ∙ c.in-Some-default-Some.field-0-1-is) in
    let last = found (last_of s.zones.zones end) there in
    none-some last.0 (sym c.in-None.is ∙ (c.last.ensures ∙ last.1))
