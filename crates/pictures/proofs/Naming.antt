-- Clients are named whole.
use Rattle.std.proofs.Common.{ℕ, lit<, refl, ap, ◌∙◌, ◌≡◌, ◌<◌, ◌≤◌, ◌^◌, ◌⊎◌, inl, inr, ◌+◌, ◌++◌, Bool, true, false, List, [], ◌∷◌, decimal, if◌then◌else◌, length, nat_lt, arith}
use Rattle.std.proofs.Common.{append-nil}
use Rattle.std.proofs.lemmas.Bool.Decides.{nat_tests}
use Rattle.std.proofs.lemmas.Fmt.{length-decimal-le}
use Rattle.std.proofs.lemmas.List.{length-append}
use Rattle.scenes.specs.declared.scene.Scene.{Scene}
use Rattle.pictures.specs.declared.style.TheConstants.{CLIENT_WORD, OF_CLIENTS}
use Rattle.pictures.specs.Layout.{room_of}
use Rattle.pictures.specs.Strips.{client_word, client_words, numbers_after}
use Rattle.pictures.specs.Words.{fitted}
use Rattle.pictures.proofs.Readable.{wide}

-- words that fit, or brief ones that do
fits_in : (room : ℕ) (words brief : List ℕ) (b : Bool) → nat_lt room (length words) ≡ b → length brief ≤ room
    → length (if b then brief else words) ≤ room
fits_in room words brief true is le = le
fits_in room words brief false is le = grind (arith, nat_tests)

fitted_in : (room : ℕ) (words brief : List ℕ) → length brief ≤ room → length (fitted room words brief) ≤ room
fitted_in room words brief le = fits_in room words brief (nat_lt room (length words)) refl le

-- words, or those that fit
either : (words brief : List ℕ) (b : Bool) → ((if b then brief else words) ≡ words) ⊎ ((if b then brief else words) ≡ brief)
either words brief true = inr refl
either words brief false = inl refl

kept : (room : ℕ) (words brief : List ℕ) (b : Bool) → nat_lt room (length words) ≡ b → length words ≤ room → (if b then brief else words) ≡ words
kept room words brief true is le = absurd (grind (arith, nat_tests))
kept room words brief false is le = refl

room_for_ten : (scene : Scene) → 10 ≤ room_of scene
room_for_ten scene = omega (arith, wide scene)

pub named_whole : (scene : Scene) (clients : List ℕ) → length clients < 100 → length (client_words scene clients) ≤ room_of scene
named_whole scene clients few =
    let room = room_of scene in
    let digits : length (decimal (length clients)) ≤ 2 = length-decimal-le 2 (length clients) (lit< tt) (omega arith) (omega (arith, few)) in
    let count = decimal (length clients) ++ OF_CLIENTS.now in
    let sum : length count ≡ length (decimal (length clients)) + length OF_CLIENTS.now = length-append (decimal (length clients)) OF_CLIENTS.now in
    let brief : length count ≤ room = omega (arith, digits, sum, room_for_ten scene) in
    fitted_in room (numbers_after (client_word clients) clients) (fitted room (numbers_after [] clients) count)
    (fitted_in room (numbers_after [] clients) count brief)

pub one_named : (scene : Scene) (client : ℕ) → client < 2 ^ 32
    → (client_words scene (client ∷ []) ≡ CLIENT_WORD.now ++ decimal client) ⊎ (client_words scene (client ∷ []) ≡ decimal client)
one_named scene client fits =
    let room = room_of scene in
    let number = numbers_after [] (client ∷ []) in
    let alone : number ≡ decimal client = append-nil (decimal client) in
    let short : length (decimal client) ≤ 10 = length-decimal-le 10 client (lit< tt) (omega arith) (omega arith) in
    let long : length number ≤ room = omega (arith, short, room_for_ten scene, ap length alone) in
    let count = decimal 1 ++ OF_CLIENTS.now in
    let brief : fitted room number count ≡ number = kept room number count (nat_lt room (length number)) refl long in
    let words = numbers_after CLIENT_WORD.now (client ∷ []) in
    let whole : words ≡ CLIENT_WORD.now ++ decimal client = ap (λ (l : List ℕ). CLIENT_WORD.now ++ l) (append-nil (decimal client)) in
    elim (either words (fitted room number count) (nat_lt room (length words))) [
      | inl h ↦ inl (h ∙ whole)
      | inr h ↦ inr (h ∙ brief ∙ alone)
    ]
