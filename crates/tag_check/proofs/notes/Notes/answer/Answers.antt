use Rattle.std.proofs.Common.{Some, None, refl, sym, ◌∙◌}
use Rattle.std.proofs.lemmas.Bool.{false≢true}
use Rattle.std.proofs.lemmas.Option.{none-some}
use Rattle.tag_check.proofs.Values.{is_other, is_right}
use Rattle.tag_check.proofs.notes.Notes.answer.Goals as goal

pub returns-in_default : goal.returns-in_default
returns-in_default c = (
  λ tag write value response reads noted responds stands. absurd (c.in_default.not-Some response responds),
  λ h. c.in_default.not-Some h.answered.1.0 h.answered.1.1,
)

pub returns-in_default-read_tag : goal.returns-in_default-read_tag
returns-in_default-read_tag c = (
  λ tag write value response reads noted responds stands. absurd (none-some tag (sym c.in_default-read_tag.is ∙ (c.read_tag.ensures tag).1 (reads, (response, responds), noted))),
  λ h. none-some h.tag (sym c.in_default-read_tag.is ∙ (c.read_tag.ensures h.tag).1 h.answered),
)

pub returns-then-answers : goal.returns-then-answers
returns-then-answers c =
    let tag = c.in-Some-read_tag.tag in
    is_right c.args.self.now.part.now c.args.call.now c.in-Some.response tag None None ((c.read_tag.ensures tag).0 c.in-Some-read_tag.is) c.in-Some.is
    (c.is_least.ensures.0 c.if-is_least.true, refl) c.requires.own (c.answers.ensures.0 c.if-answers.true)

pub returns-else-answers : goal.returns-else-answers
returns-else-answers c =
    let tag = c.in-Some-read_tag.tag in
    is_other c.args.self.now.part.now c.args.call.now c.in-Some.response tag None None ((c.read_tag.ensures tag).0 c.in-Some-read_tag.is) c.in-Some.is
    (c.is_least.ensures.0 c.if-is_least.true, refl) (λ h. false≢true (sym c.if-answers.false ∙ c.answers.ensures.1 h))

pub returns-in_default-write_of : goal.returns-in_default-write_of
returns-in_default-write_of c =
    let tag = c.in-Some-read_tag.tag in
    record {
      tag = tag;
      answered = (c.read_tag.ensures tag).0 c.in-Some-read_tag.is;
      other = λ e. false≢true (sym c.if-is_least.false ∙ c.is_least.ensures.1 e);
      unwritten = c.in_default-write_of.ensures;
    }

pub returns-then-answers-2 : goal.returns-then-answers-2
returns-then-answers-2 c =
    let tag = c.in-Some-read_tag.tag in
    is_right c.args.self.now.part.now c.args.call.now c.in-Some.response tag (Some c.in-Some-write_of.write) (Some c.in-Some-write_of.value)
    ((c.read_tag.ensures tag).0 c.in-Some-read_tag.is) c.in-Some.is
    (λ e. false≢true (sym c.if-is_least.false ∙ c.is_least.ensures.1 e), c.in-Some-write_of.value, c.in-Some-write_of.ensures, refl) c.requires.own (c.answers-2.ensures.0 c.if-answers-2.true)

pub returns-else-answers-2 : goal.returns-else-answers-2
returns-else-answers-2 c =
    let tag = c.in-Some-read_tag.tag in
    is_other c.args.self.now.part.now c.args.call.now c.in-Some.response tag (Some c.in-Some-write_of.write) (Some c.in-Some-write_of.value)
    ((c.read_tag.ensures tag).0 c.in-Some-read_tag.is) c.in-Some.is
    (λ e. false≢true (sym c.if-is_least.false ∙ c.is_least.ensures.1 e), c.in-Some-write_of.value, c.in-Some-write_of.ensures, refl) (λ h. false≢true (sym c.if-answers-2.false ∙ c.answers-2.ensures.1 h))
