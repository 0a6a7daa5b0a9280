-- The expressions of a body in memory are over its bits.
use Rattle.std.proofs.Common.{◌≡◌, ℕ, List, map, sym, subst, arith}
use Rattle.std.specs.List.{All}
use Rattle.std.proofs.lemmas.List.{length-map, get_or-map}
use Rattle.bool_expr.specs.declared.expr.Expr.{Expr}
use Rattle.bool_expr.specs.Expression.{Expression, IsOver}
use Rattle.bool_expr.specs.View.{view}
use Rattle.net_core.specs.Places.{IsThere}
use Rattle.net_core.specs.Netlist.{Netlist as InMemory, pin_of, terminals}
use Rattle.net_machine.specs.declared.body.Load.{Load as LoadParts}
use Rattle.net_machine.specs.declared.body.Shown.{Shown as ShownParts}
use Rattle.net_machine.specs.declared.body.Body.{Body as BodyParts}
use Rattle.net_machine.specs.Body.{Load, Shown, load_view, value_view, shown_view, body_view}
use Rattle.net_machine.specs.Gathered.{bits_count, HasPins, IsBodyOver}

all_map : {A B : Type 0} (f : A → B) (P : B → Type 0) (xs : List A) → All P (map f xs) → All (λ x. P (f x)) xs
all_map f P xs h k d low = let many = length-map xs f in subst P (get_or-map f xs k d (f d) low) (h k (f d) (omega (arith, low, many)))

pub next_over : (b : BodyParts) (loads : List LoadParts) (n : ℕ) → IsBodyOver (body_view b) → loads ≡ b.loads.items → n ≡ bits_count (body_view b) → All (λ l. IsOver (view l.next) n) loads
next_over b loads n h is many =
    subst (λ (m : ℕ). All (λ (l : LoadParts). IsOver (view l.next) m) loads) (sym many)
    (subst (λ (ls : List LoadParts). All (λ (l : LoadParts). IsOver (view l.next) (bits_count (body_view b))) ls) (sym is)
    (all_map load_view (λ (l : Load). IsOver l.next (bits_count (body_view b))) b.loads.items h.next))

pub enable_over : (b : BodyParts) (loads : List LoadParts) (n : ℕ) → IsBodyOver (body_view b) → loads ≡ b.loads.items → n ≡ bits_count (body_view b) → All (λ l. IsOver (view l.enable) n) loads
enable_over b loads n h is many =
    subst (λ (m : ℕ). All (λ (l : LoadParts). IsOver (view l.enable) m) loads) (sym many)
    (subst (λ (ls : List LoadParts). All (λ (l : LoadParts). IsOver (view l.enable) (bits_count (body_view b))) ls) (sym is)
    (all_map load_view (λ (l : Load). IsOver l.enable (bits_count (body_view b))) b.loads.items h.enable))

pub inner_over : (b : BodyParts) (inner : List Expr) (n : ℕ) → IsBodyOver (body_view b) → inner ≡ b.inner.items → n ≡ bits_count (body_view b) → All (λ e. IsOver (view e) n) inner
inner_over b inner n h is many =
    subst (λ (m : ℕ). All (λ (e : Expr). IsOver (view e) m) inner) (sym many)
    (subst (λ (es : List Expr). All (λ (e : Expr). IsOver (view e) (bits_count (body_view b))) es) (sym is)
    (all_map view (λ (e : Expression). IsOver e (bits_count (body_view b))) b.inner.items h.inner))

pub shows_over : (b : BodyParts) (shows : List ShownParts) (n : ℕ) → IsBodyOver (body_view b) → shows ≡ b.shows.items → n ≡ bits_count (body_view b) → All (λ s. IsOver (value_view s.value) n) shows
shows_over b shows n h is many =
    subst (λ (m : ℕ). All (λ (s : ShownParts). IsOver (value_view s.value) m) shows) (sym many)
    (subst (λ (ss : List ShownParts). All (λ (s : ShownParts). IsOver (value_view s.value) (bits_count (body_view b))) ss) (sym is)
    (all_map shown_view (λ (s : Shown). IsOver s.expr (bits_count (body_view b))) b.shows.items h.shows))

pub shows_there : (n : InMemory) (owner : List ℕ) (b : BodyParts) (shows : List ShownParts) → HasPins n owner (body_view b) → shows ≡ b.shows.items → All (λ s. IsThere (terminals n) (pin_of owner s.pin)) shows
shows_there n owner b shows h is =
    subst (λ (ss : List ShownParts). All (λ (s : ShownParts). IsThere (terminals n) (pin_of owner s.pin)) ss) (sym is)
    (all_map shown_view (λ (s : Shown). IsThere (terminals n) (pin_of owner s.pin)) b.shows.items h.shows)
