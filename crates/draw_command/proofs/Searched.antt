-- The keys that have a call, and what is said of them.
use Rattle.std.proofs.Common.{ℕ, ◌≡◌, ◌++◌, ◌∙◌, append-nil, Bool, true, false, List, [], ◌∷◌, Option, Some, cond, filter, length, map, refl, ap, sym}
use Rattle.std.specs.Borrow.{Bor}
use Rattle.std.specs.List.{list_any}
use Rattle.markup.specs.Markup.{Markup, each, nothing, rendered}
use Rattle.judged_keys.specs.Judgements.{Judgement}
use Rattle.parallel_keys.specs.CheckedKeys.{CheckedKey}
use Rattle.parallel_keys.specs.KeysToCheck.{what_of}
use Rattle.parallel_keys.specs.declared.collect_keys.KeyToCheck.{KeyToCheck}
use Rattle.draw_command.specs.Pages.{elsewhere_line, elsewhere_markup, has_call, keys_with, nowhere_line, search_markup}
use Rattle.draw_command.proofs.Adding.{both_added}

one_more : (b : Bool) (one : KeyToCheck) (some : List KeyToCheck) (others : List CheckedKey)
    → map (λ (key : Bor (List ℕ)). key.now) (map (λ (own : KeyToCheck). own.key) some) ≡ map (λ (own : CheckedKey). own.key) others
    → map (λ (key : Bor (List ℕ)). key.now) (map (λ (own : KeyToCheck). own.key) (cond b (one ∷ some) some)) ≡ map (λ (own : CheckedKey). own.key) (cond b (what_of one ∷ others) others)
one_more true one some others same = ap (λ (l : List (List ℕ)). one.key.now ∷ l) same
one_more false one some others same = same

-- the names of those that were kept are the names of those of which that is checked
pub named_so : (number : ℕ) (keys : List KeyToCheck)
    → map (λ (key : Bor (List ℕ)). key.now) (map (λ (own : KeyToCheck). own.key) (filter (λ (own : KeyToCheck). has_call own.part number) keys)) ≡ keys_with number (map what_of keys)
named_so number [] = refl
named_so number (one ∷ keys) =
    one_more (has_call one.part number) one (filter (λ (own : KeyToCheck). has_call own.part number) keys) (filter (λ (own : CheckedKey). has_call own.part number) (map what_of keys)) (named_so number keys)

-- what is said, if a drawn key has the call or none has
search_is : (around : Option ℕ) (number : ℕ) (drawn : List Judgement) (keys : List (List ℕ)) (b : Bool) → around ≡ Some number
    → list_any (λ (key : Judgement). has_call key.one.part number) drawn ≡ b → search_markup around drawn keys ≡ cond b nothing (elsewhere_markup number keys)
search_is around number drawn keys b is called =
    ap (λ (a : Option ℕ). search_markup a drawn keys) is ∙ ap (λ (c : Bool). cond c nothing (elsewhere_markup number keys)) called

nothing_more : (page : List ℕ) → page ≡ page ++ rendered nothing
unfolding rendered
nothing_more page = sym (append-nil page)

pub drawn_already : (around : Option ℕ) (number : ℕ) (drawn : List Judgement) (keys : List (List ℕ)) (page : List ℕ) → around ≡ Some number
    → list_any (λ (key : Judgement). has_call key.one.part number) drawn ≡ true → page ≡ page ++ rendered (search_markup around drawn keys)
drawn_already around number drawn keys page is called = nothing_more page ∙ ap (λ (m : Markup). page ++ rendered m) (sym (search_is around number drawn keys true is called))

pub searched : (around : Option ℕ) (number : ℕ) (drawn : List Judgement) (keys : List (List ℕ)) (page named new : List ℕ) → around ≡ Some number
    → list_any (λ (key : Judgement). has_call key.one.part number) drawn ≡ false → named ≡ page ++ rendered (each (elsewhere_line number) keys)
    → new ≡ named ++ rendered (nowhere_line number (length keys)) → new ≡ page ++ rendered (search_markup around drawn keys)
searched around number drawn keys page named new is called first second =
    both_added (each (elsewhere_line number) keys) (nowhere_line number (length keys)) page named new first second
    ∙ ap (λ (m : Markup). page ++ rendered m) (sym (search_is around number drawn keys false is called))
