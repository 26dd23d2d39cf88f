use Rattle.std.proofs.Common.{List, ℕ, ◌≡◌, Option, inl, inr, sym, ap, subst, ◌∙◌}
use Rattle.kept_writers.specs.Ends.{number_at}
use Rattle.kept_writers.specs.Written.{LacksEnd, Written}
use Rattle.monitored_key.specs.Indexed.{write_in, owner_in, values_in}
use Rattle.monitored_key.specs.Indexes.{written_or_none}
use Rattle.key_monitor.specs.KeptWrites.{KeptWrite}
use Rattle.monitored_key.specs.Maps.{entry_at, text_at}
use Rattle.std.proofs.lemmas.Option.{same_Some}
use Rattle.monitored_key.proofs.Finding.{ended_at}
use Rattle.monitored_key.proofs.Indexing.{Become, by_lacks, by_sets, indexed_gone}
use Rattle.monitored_key.proofs.Maps.{lacks_entry, there}
use Rattle.monitored_key.proofs.indexed.Indexed.forget.Goals as goal

pub forget_writer-requires : goal.forget_writer-requires
forget_writer-requires c =
    let s = c.args.self.now in
    let o = c.requires.fit.owner c.args.end c.in-Some.number (sym c.in-Some.ensures.value) in
    let same : o.0 ≡ c.in-Some-remove.write = same_Some o.0 c.in-Some-remove.write (sym o.1 ∙ sym c.in-Some-remove.ensures.value) in
    let text : o.0.value ≡ c.text.result.now = ap (λ (k : KeptWrite). k.value) same ∙ sym c.text.ensures in
    let e = ended_at (values_in s) o.0.value c.in-Some.number c.args.end (c.requires.fit.ended c.in-Some.number c.args.end o.0 o.1 o.2) in
    record { there = (e.0, ap (values_in s) (sym text) ∙ e.1, there (number_at e.0.ends c.args.end) c.in-Some.number e.2) }

pub returns-clause-fit : goal.returns-clause-fit
returns-clause-fit c =
    let s = c.args.self.now in
    let end = c.args.end in
    let number = c.in-Some.number in
    let o = c.requires.fit.owner end number (sym c.in-Some.ensures.value) in
    let same : o.0 ≡ c.in-Some-remove.write = same_Some o.0 c.in-Some-remove.write (sym o.1 ∙ sym c.in-Some-remove.ensures.value) in
    let text : c.text.result.now ≡ o.0.value = c.text.ensures ∙ ap (λ (k : KeptWrite). k.value) (sym same) in
    let e = ended_at (values_in s) o.0.value number end (c.requires.fit.ended number end o.0 o.1 o.2) in
    let values = text_at c.forget_writer.new.values in
    let f = c.forget_writer.ensures e.0 (ap (values_in s) text ∙ e.1) in
    let b : Become (values_in s) c.text.result.now values f.0 = elim f.2 [
      | inl none ↦ by_lacks (values_in s) c.text.result.now values f.0 none.0 none.1
      | inr some ↦ by_sets (values_in s) c.text.result.now values f.0 some.0 some.1
    ] in
    indexed_gone (write_in s) (values_in s) (owner_in s) c.requires.fit number end o.0 o.1 o.2 f.0
    (subst (λ (x : Option Written). LacksEnd (written_or_none x) end f.0) (sym e.1) f.1) values
    (subst (λ (v : List ℕ). Become (values_in s) v values f.0) text b)
    (entry_at c.remove-2.new.self.entries) (lacks_entry s.by_number c.remove-2.new.self number c.remove-2.ensures.updates)
    (entry_at c.remove.new.self.entries) (lacks_entry s.by_end c.remove.new.self end c.remove.ensures.updates)
