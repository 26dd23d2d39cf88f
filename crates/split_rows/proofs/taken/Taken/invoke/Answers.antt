use Rattle.std.proofs.Common.{ℕ, ◌≡◌, ◌<◌, ◌≤◌, ◌+◌, ◌%◌, length, ap, sym, ◌∙◌, refl, arith, rules, Fits, w32}
use Rattle.std.specs.Vec.{with_item}
use Rattle.std.proofs.lemmas.Nat.{mod_below}
use Rattle.std.proofs.lemmas.Option.{same_Some}
use Rattle.std.proofs.lemmas.Result.{err_from_is_err_and}
use Rattle.tag.proofs.Lists.{item_at}
use Rattle.recorder.specs.Histories.{call_count}
use Rattle.recorder.specs.States.{is_write}
use Rattle.open_calls.specs.Open.{Open}
use Rattle.split_rows.specs.declared.moved.Moved.{Moved}
use Rattle.split_rows.specs.declared.taken.Taken.{Taken}
use Rattle.split_rows.proofs.Taking.{begun_keeps_all, few_at}
use Rattle.split_rows.proofs.taken.Taken.invoke.Goals as goal

pub returns-in_err-begin : goal.returns-in_err-begin
returns-in_err-begin c = λ parts rows pieces formed k.
    let p = err_from_is_err_and c.from_residual.result c.from_residual.ensures.1 in
    let r = c.in_err-begin.ensures.row rows c.args.key.now formed k.opens in
    rw (p.1, p.2) (r.0, λ other. ap (λ (x : Open Moved). record c.args.self.now { calls = x }) r.1)

pub returns-in_err-number_text : goal.returns-in_err-number_text
returns-in_err-number_text c = λ parts rows pieces formed k.
    let p = err_from_is_err_and c.from_residual-in_err-number_text.result c.from_residual-in_err-number_text.ensures.1 in
    rw (p.1, p.2) ((c.in_ok-begin.ensures.row rows c.args.key.now formed k.opens).0, λ other. absurd (other refl))

pub overflow_add-index_mut : goal.overflow_add-index_mut
overflow_add-index_mut c =
    let old = c.args.self.now in
    let s = c.requires.some in
    let k = s.keeps in
    let size : c.len.result ≡ length old.counts.items = c.len.ensures ∙ old.counts.ok.0 in
    let all : c.len.result ≡ s.parts = size ∙ k.counts.one in
    let some : 0 < c.len.result = (let p = k.some in omega (arith, p, all)) in
    let few : c.index_mut.result.now ≤ call_count s.rows = few_at old.counts.items _ c.len.result c.index_mut.result.now (call_count s.rows)
    some size k.counts.few c.index_mut.ensures.value in
    let turn = (c.in_ok-begin.ensures.row s.rows c.args.key.now s.formed k.opens).0.0 in
    let small : Fits w32 c.args.op.0 = search rules in
    grind (arith, few, turn, small)

pub returns : goal.returns
returns c = λ parts rows pieces formed k.
    let old = c.args.self.now in
    let t = c.in_ok-begin.ensures.row rows c.args.key.now formed k.opens in
    let n = c.number_of.result in
    let piece = n % c.len.result in
    let size : c.len.result ≡ length old.counts.items = c.len.ensures ∙ old.counts.ok.0 in
    let all : c.len.result ≡ parts = size ∙ k.counts.one in
    let some : 0 < c.len.result = (let p = k.some in omega (arith, p, all)) in
    let low = mod_below n c.len.result some in
    let within : piece < length old.counts.items = omega (arith, low, size) in
    let at = item_at old.counts.items piece c.index_mut.result.now within c.index_mut.ensures.value in
    let before = item_at old.counts.items piece c.index.result.now within c.index.ensures in
    let same : c.index.result.now ≡ c.index_mut.result.now = same_Some c.index.result.now c.index_mut.result.now (sym before ∙ at) in
    let few = k.counts.few piece c.index_mut.result.now at in
    let turn = t.0.0 in
    let number : c.min-number.result ≡ c.index_mut.result.now = omega (arith, c.min-number.ensures, c.from.ensures, same, few, turn) in
    let moved : Moved = record { piece = piece; op = record { 0 = c.min-number.result } } in
    let new : Taken = record {
      calls = c.begin.new.self;
      keys = c.number_text.new.self;
      counts = with_item old.counts piece (c.index_mut.result.now + 1);
    } in (
      t.0,
      omega (arith, low, all),
      begun_keeps_all parts rows formed pieces old k c.args.op c.args.client c.args.key.now c.args.action.now t.0 c.in_ok-number_text.field-0 n
          new moved c.in_ok-number_text.ensures.ok c.number_of.ensures (ap (λ (d : ℕ). n % d) all) c.index_mut.result.now at number refl t.1
          (is_write c.args.action.now) c.in_ok-begin.ensures.ok,
    )
