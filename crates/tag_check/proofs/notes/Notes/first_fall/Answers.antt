use Rattle.std.proofs.Common.{refl, sym, ◌∙◌, arith}
use Rattle.std.proofs.lemmas.Bool.{false≢true}
use Rattle.tag_check.specs.Least.{HasPartner}
use Rattle.tag_check.specs.Rules.{IsNotAbove}
use Rattle.tag.proofs.Lists.{Contains-slice_get}
use Rattle.tag_check.proofs.Calls.{first_here, none_more, none_all}
use Rattle.tag_check.proofs.Answered.{read_at, falls_here, none_above}
use Rattle.tag_check.proofs.notes.Notes.first_fall.Goals as goal

pub returns-in-Some : goal.returns-in-Some
returns-in-Some c =
    let s = c.args.self.now in
    let call = c.call-call.result in
    let read = read_at s.part.now c.args.tags.now c.loop-j.j call c.index-tags-j.result c.loop-j.greatest c.greater-greatest.result c.requires
    c.call-call.ensures c.index-tags-j.is c.loop-j.invariant.greatest c.greater-greatest.ensures in
    let has = falls_here s.part.now c.args.tags.now c.loop-j.j call c.greater-greatest.result read.at c.requires read.top s.sequence
    (c.falls.ensures.0 c.if-falls.true) in
    record {
      call = call;
      recorded = Contains-slice_get s.part.now c.loop-j.j call read.at;
      number = refl;
      partnered = first_here s.part.now s.sequence (HasPartner s.part.now IsNotAbove) c.loop-j.j call read.at has c.loop-j.invariant.none;
      partner = c.in-Some.ensures;
    }

pub unreachable-requires : goal.unreachable-requires
unreachable-requires c =
    let s = c.args.self.now in
    let read = read_at s.part.now c.args.tags.now c.loop-j.j c.call-call.result c.index-tags-j.result c.loop-j.greatest c.greater-greatest.result
    c.requires c.call-call.ensures c.index-tags-j.is c.loop-j.invariant.greatest c.greater-greatest.ensures in
    let has = falls_here s.part.now c.args.tags.now c.loop-j.j c.call-call.result c.greater-greatest.result read.at c.requires read.top
    s.sequence (c.falls.ensures.0 c.if-falls.true) in
    c.in-None.ensures has.0 has.1 has.2

pub loop-j-preserved : goal.loop-j-preserved
loop-j-preserved c =
    let s = c.args.self.now in
    let read = read_at s.part.now c.args.tags.now c.loop-j.j c.call-call.result c.index-tags-j.result c.loop-j.greatest c.greater-greatest.result
    c.requires c.call-call.ensures c.index-tags-j.is c.loop-j.invariant.greatest c.greater-greatest.ensures in
    record {
      greatest = read.top;
      none = none_more s.part.now (HasPartner s.part.now IsNotAbove) c.loop-j.j c.call-call.result read.at
          (none_above s.part.now c.args.tags.now c.loop-j.j c.call-call.result c.greater-greatest.result read.at c.requires read.top
          (λ h. false≢true (sym c.if-falls.false ∙ c.falls.ensures.1 h))) c.loop-j.invariant.none;
    }

pub returns : goal.returns
returns c = none_all c.args.self.now.part.now (HasPartner c.args.self.now.part.now IsNotAbove) c.loop-j.j (omega (arith, c.loop-j-test.false, c.len-j-end.ensures.count)) c.loop-j.invariant.none
