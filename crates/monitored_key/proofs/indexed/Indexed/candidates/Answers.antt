use Rattle.std.proofs.Common.{◌≡◌, Option, Some, None, sym, subst, ◌∙◌, refl}
use Rattle.std.proofs.lemmas.Option.{none-some}
use Rattle.kept_writers.specs.Candidates.{AreCandidates}
use Rattle.kept_writers.specs.Written.{Written}
use Rattle.kept_writers.specs.declared.readable.Candidates.TheVariants as candidates
use Rattle.monitored_key.specs.Indexed.{write_in, owner_in, values_in}
use Rattle.monitored_key.specs.Indexes.{written_or_none}
use Rattle.monitored_key.proofs.Finding.{ended_of}
use Rattle.monitored_key.proofs.Fresh.{readable}
use Rattle.monitored_key.proofs.indexed.Indexed.candidates.Goals as goal

pub candidates-requires : goal.candidates-requires
candidates-requires c = λ e n at.
    let s = c.args.self.now in
    let text = c.args.text.now in
    let is : values_in s text ≡ Some c.in-Some.writers.now = sym c.in-Some.ensures.value in
    let k = c.requires.fit.is_ended text n e (ended_of (values_in s) text c.in-Some.writers.now is e ∙ at) in
    c.requires.high e n (c.requires.fit.owned n e k.0 k.1 k.3)

pub returns-in-Some : goal.returns-in-Some
returns-in-Some c =
    let s = c.args.self.now in
    let text = c.args.text.now in
    let zones = c.args.zones.now in
    let is : values_in s text ≡ Some c.in-Some.writers.now = sym c.in-Some.ensures.value in
    readable (write_in s) (values_in s) (owner_in s) c.requires.fit zones c.args.begin text c.candidates.result
    (subst (λ (o : Option Written). AreCandidates (written_or_none o).begins (written_or_none o).ends zones.zones c.args.begin
    c.candidates.result) (sym is) c.candidates.ensures)

pub returns-in-None : goal.returns-in-None
returns-in-None c =
    let s = c.args.self.now in
    let text = c.args.text.now in
    let zones = c.args.zones.now in
    let is : values_in s text ≡ None = sym c.in-None.ensures.value in
    readable (write_in s) (values_in s) (owner_in s) c.requires.fit zones c.args.begin text candidates.None
    (subst (λ (o : Option Written). AreCandidates (written_or_none o).begins (written_or_none o).ends zones.zones c.args.begin
    candidates.None) (sym is) (λ n. refl, λ e n at. absurd (none-some n at)))
