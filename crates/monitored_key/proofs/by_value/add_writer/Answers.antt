use Rattle.std.proofs.Common.{◌≡◌, Option, Some, sym, subst}
use Rattle.std.proofs.lemmas.Result.{on_ok_weaker}
use Rattle.kept_writers.specs.Written.{HasBegin, Written}
use Rattle.monitored_key.specs.Indexes.{written_or_none}
use Rattle.monitored_key.specs.Maps.{text_at}
use Rattle.monitored_key.proofs.Maps.{sets_text, there}
use Rattle.monitored_key.proofs.by_value.add_writer.Goals as goal

pub add-requires : goal.add-requires
add-requires c = c.requires c.in-Some.writers.now (sym c.in-Some.ensures.value)

pub returns-in-Some : goal.returns-in-Some
returns-in-Some c =
    let old = c.args.values.now in
    let text = c.args.text.now in
    let w : Written = c.add.new.self in
    let at : text_at old text ≡ Some c.in-Some.writers.now = sym c.in-Some.ensures.value in
    on_ok_weaker c.add.result (λ h. (
      w,
      subst (λ (o : Option Written). HasBegin (written_or_none o) c.args.number c.args.place w) (sym at) h,
      sets_text old (c.get_mut.follows.lender w) text w ((c.get_mut.follows.holds w).3 (there (text_at old text) c.in-Some.writers.now at)),
    )) c.add.ensures.ok
