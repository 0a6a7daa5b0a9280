-- The texts of driven port bits, connector by connector.
use Rattle.std.proofs.Common.{◌≡◌, ℕ, ◌+◌, ◌<◌, Bool, true, false, ◌&&◌, List, take, length, get_or, Option, None, Some, refl, sym, ap, subst, ◌∙◌}
use Rattle.std.specs.Prelude.{is_none, slice_index_or}
use Rattle.cougar_extract.specs.declared.links.Link.{Link}
use Rattle.cougar_extract.specs.Stages.{AreOutputs}
use Rattle.net_core.specs.Places.{IsThere, Learned}
use Rattle.cougar_extract.proofs.Linking.{TextsTo, texts_learn, texts_keep, take_read}
use Rattle.cougar_extract.proofs.Steps.{learned_both}

-- what a mark tells
marked : (o : Option (List ℕ)) (b r : Bool) → r ≡ (is_none o && b) → r ≡ true → (o ≡ None) × (b ≡ true)
marked None b r e is = (refl, sym e ∙ is)
marked (Some t) b r e is = let clash : false ≡ true = sym e ∙ is in absurd cc

unmarked : (o : Option (List ℕ)) (b r : Bool) → r ≡ (is_none o && b) → r ≡ false → o ≡ None → b ≡ true → ⊥
unmarked o b r e isnt bare is =
    let whole : r ≡ true = e ∙ ap (λ (x : Option (List ℕ)). is_none x && b) bare ∙ is in
    let clash : true ≡ false = sym whole ∙ isnt in
    absurd cc

-- the text of a marked bit is learned
pub text_driven : (links : List Link) (marks : List Bool) (k : ℕ) (x : Link) (old new : List (List ℕ)) (r : Bool) → k < length links → x ≡ get_or links k x
    → AreOutputs links marks → r ≡ (is_none x.terminal.instance && slice_index_or marks x.number false) → r ≡ true → Learned old new x.terminal.pin.text
    → IsThere new x.terminal.pin.text → TextsTo (take k links) links old → TextsTo (take (k + 1) links) links new
text_driven links marks k x old new r low read are told is learned own so_far =
    let both = marked x.terminal.instance (slice_index_or marks x.number false) r told is in
    subst (λ (seen : List Link). TextsTo seen links new) (sym (take_read links k x low read))
    (texts_learn (take k links) links old new x both.0 ((are x.number).0 both.1) (learned_both old new x.terminal.pin.text learned own) so_far)

-- and that of another connector isn't
pub text_passed : (links : List Link) (marks : List Bool) (k : ℕ) (x : Link) (texts : List (List ℕ)) (r : Bool) → k < length links → x ≡ get_or links k x
    → AreOutputs links marks → r ≡ (is_none x.terminal.instance && slice_index_or marks x.number false) → r ≡ false
    → TextsTo (take k links) links texts → TextsTo (take (k + 1) links) links texts
text_passed links marks k x texts r low read are told isnt so_far =
    subst (λ (seen : List Link). TextsTo seen links texts) (sym (take_read links k x low read))
    (texts_keep (take k links) links texts x
    (λ bare output. unmarked x.terminal.instance (slice_index_or marks x.number false) r told isnt bare ((are x.number).1 output)) so_far)
