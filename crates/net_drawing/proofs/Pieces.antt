-- Items and the numbered lines that they show, piece by piece.
use Rattle.std.proofs.Common.{◌≡◌, ℕ, zero, suc, ◌<◌, ◌≤◌, true, false, List, [], ◌∷◌, ◌++◌, map, length, Option, Some, None, refl, sym, ap, ◌∙◌, subst, arith, append_assoc}
use Rattle.std.specs.Prelude.{ℤ, pos, ◌+ℤ◌, ◌≤ℤ◌, slice_get, flat_map}
use Rattle.std.specs.Int.{int_min, int_max}
use Rattle.std.proofs.lemmas.Int.{ints, int_min_is, int_max_is}
use Rattle.std.proofs.lemmas.List.{append-nil, map-append}
use Rattle.std.proofs.lemmas.Grind.{flat_map-append}
use Rattle.vlsi_base.specs.declared.name.Name as name
use Rattle.sym_geom.specs.declared.rect.Rect.{Rect}
use Rattle.sym_geom.specs.declared.layer.Layer.TheVariants.{Alu}
use Rattle.sym_geom.specs.declared.layer.Level.TheVariants.{One, Two, Three}
use Rattle.sym_geom.specs.declared.item.Contact.TheVariants.{Via1, Via2}
use Rattle.sym_geom.specs.declared.item.Item.{Item}
use Rattle.sym_geom.specs.declared.item.Item.TheVariants as item
use Rattle.vlsi_base.specs.Member as member
use Rattle.sym_shapes.specs.Shape as shape
use Rattle.sym_shapes.specs.Shape.{drawn_from, item_shapes, connector_names, wire_name}
use Rattle.cell_model.specs.Library.{Library}
use Rattle.cell_model.specs.Layout.{instances_of}
use Rattle.net_meaning.specs.Netlist.{Member}
use Rattle.ocp_rows.specs.Placement.{IsWiring, model_width, level_wire, upright_wire, contact_at}
use Rattle.cell_model.specs.Access.{count_to}
use Rattle.block_geom.specs.Figure.{Shape, Name, Segment, Via, line_shapes, drawn_shapes, up_to}
use Rattle.block_geom.specs.Block.{Net, Tagged, at_x}
use Rattle.block_geom.proofs.Lists.{line_of}
use Rattle.net_drawing.specs.Picture.{shown}
use Rattle.net_drawing.specs.Drawing.{along}

-- g shows the shapes of numbers
abbrev pub Show : Type 0
Show = Shape → shape.Shape

-- each item draws what its line shows
pub data Same (g : Show) : List Item → List Tagged → Type 0 where
  ended : Same g [] []
  next : {i : Item} {t : Tagged} {is : List Item} {ts : List Tagged} → ((k : ℕ) → item_shapes k i ≡ map g (line_shapes k t.line)) → Same g is ts → Same g (i ∷ is) (t ∷ ts)

-- and is a wire or a via
pub data Wires : List Item → Type 0 where
  no_more : Wires []
  wire : {i : Item} {is : List Item} → IsWiring i → Wires is → Wires (i ∷ is)

pub Same_append : (g : Show) (a c : List Item) (b d : List Tagged) → Same g a b → Same g c d → Same g (a ++ c) (b ++ d)
Same_append g a c b d ended k = k
Same_append g a c b d (next {is = is} {ts = ts} e h) k = next e (Same_append g is c ts d h k)

pub Wires_append : (a c : List Item) → Wires a → Wires c → Wires (a ++ c)
Wires_append a c no_more k = k
Wires_append a c (wire {is = is} e h) k = wire e (Wires_append is c h k)

pub same_drawn : (g : Show) (is : List Item) (ts : List Tagged) → Same g is ts → (k : ℕ) → drawn_from k is ≡ map g (drawn_shapes k (map line_of ts))
same_drawn g is ts ended k = refl
same_drawn g is ts (next {i = i} {t = t} {is = rest} {ts = us} e h) k =
    ap (λ v. v ++ drawn_from (suc k) rest) (e k)
    ∙ ap (λ v. map g (line_shapes k t.line) ++ v) (same_drawn g rest us h (suc k))
    ∙ sym (map-append g (line_shapes k t.line) (drawn_shapes (suc k) (map line_of us)))

-- lines and wires together
pub record Drawn (g : Show) (is : List Item) (ts : List Tagged) : Type 0 where
  pub same : Same g is ts
  pub wires : Wires is

pub nothing : (g : Show) → Drawn g [] []
nothing g = record { same = ended; wires = no_more }

pub Drawn_append : (g : Show) (a c : List Item) (b d : List Tagged) → Drawn g a b → Drawn g c d → Drawn g (a ++ c) (b ++ d)
Drawn_append g a c b d f h = record { same = Same_append g a c b d f.same h.same; wires = Wires_append a c f.wires h.wires }

pub one_line : (g : Show) (i : Item) (t : Tagged) → IsWiring i → ((k : ℕ) → item_shapes k i ≡ map g (line_shapes k t.line)) → Drawn g (i ∷ []) (t ∷ [])
one_line g i t w e = record { same = next e ended; wires = wire w no_more }

pub up_to_first : {X : Type 0} (n : ℕ) (f : ℕ → List X) → up_to (suc n) f ≡ f 0 ++ up_to n (λ i. f (suc i))
up_to_first zero f = sym (append-nil (f 0))
up_to_first (suc n) f = ap (λ v. v ++ f (suc n)) (up_to_first n f) ∙ append_assoc (f 0) (up_to n (λ i. f (suc i))) (f (suc n))

pub flat_drawn : {A : Type 0} (g : Show) (xs : List A) (h : A → List Item) (f : ℕ → List Tagged) → ((p : ℕ) (x : A) → slice_get xs p ≡ Some x → Drawn g (h x) (f p)) → Drawn g (flat_map h xs) (up_to (length xs) f)
flat_drawn g [] h f k = nothing g
flat_drawn g (x ∷ xs) h f k =
    subst (λ v. Drawn g (h x ++ flat_map h xs) v) (sym (up_to_first (length xs) f))
    (Drawn_append g (h x) (flat_map h xs) (f 0) (up_to (length xs) (λ i. f (suc i))) (k 0 x refl) (flat_drawn g xs h (λ i. f (suc i)) (λ p y e. k (suc p) y e)))

-- the x of instance i of a row that begins at x
abbrev pub x_at : Library → ℤ → List Member → ℕ → ℤ
x_at l x [] i = x
x_at l x (one ∷ rest) zero = x
x_at l x (one ∷ rest) (suc i) = x_at l (x +ℤ model_width l one.model) rest i

pub along_drawn : (g : Show) (l : Library) (ms : List Member) (x : ℤ) (h : ℤ → Member → List Item) (f : ℕ → List Tagged) → ((i : ℕ) (one : Member) → slice_get ms i ≡ Some one → Drawn g (h (x_at l x ms i) one) (f i)) → Drawn g (along l h x ms) (up_to (length ms) f)
along_drawn g l [] x h f k = nothing g
along_drawn g l (one ∷ rest) x h f k =
    subst (λ v. Drawn g (h x one ++ along l h (x +ℤ model_width l one.model) rest) v) (sym (up_to_first (length rest) f))
    (Drawn_append g (h x one) (along l h (x +ℤ model_width l one.model) rest) (f 0) (up_to (length rest) (λ i. f (suc i))) (k 0 one refl) (along_drawn g l rest (x +ℤ model_width l one.model) h (λ i. f (suc i)) (λ i y e. k (suc i) y e)))

pub count_drawn : (g : Show) (n : ℕ) (h : ℕ → List Item) (f : ℕ → List Tagged) → ((k : ℕ) → k < n → Drawn g (h k) (f k)) → Drawn g (flat_map h (count_to n)) (up_to n f)
count_drawn g zero h f k = nothing g
count_drawn g (suc n) h f k =
    subst (λ v. Drawn g v (up_to n f ++ f n)) (sym (flat_map-append h (count_to n) (n ∷ []) ∙ ap (λ v. flat_map h (count_to n) ++ v) (append-nil (h n))))
    (Drawn_append g (flat_map h (count_to n)) (h n) (up_to n f) (f n) (count_drawn g n h f (λ j lt. k j (omega arith))) (k n (omega arith)))

-- ---- wires have no instances, and no connectors
pub wires_all : (is : List Item) → Wires is → (one : Item) → member.In one is → IsWiring one
wires_all is no_more one h = elim h [ ]
wires_all is (wire w ws) one member.here = w
wires_all is (wire {is = rest} w ws) one (member.there h) = wires_all rest ws one h

wire_instances : (i : Item) (rest : List Item) → IsWiring i → instances_of (i ∷ rest) ≡ instances_of rest
wire_instances (item.Segment s) rest w = refl
wire_instances (item.Via v) rest w = refl
wire_instances (item.Connector c) rest w = refl
wire_instances (item.Instance i) rest w = absurd w
wire_instances (item.Reference r) rest w = absurd w
wire_instances (item.Remark text) rest w = absurd w

pub no_instances : (is : List Item) → Wires is → instances_of is ≡ []
no_instances is no_more = refl
no_instances is (wire {i = i} {is = rest} w ws) = wire_instances i rest w ∙ no_instances rest ws

wire_names : (i : Item) (rest : List Item) → IsWiring i → connector_names (i ∷ rest) ≡ connector_names rest
wire_names (item.Segment s) rest w = ap (λ v. shape.label v ++ connector_names rest) w
wire_names (item.Via v) rest w = refl
wire_names (item.Connector c) rest w = absurd w
wire_names (item.Instance i) rest w = absurd w
wire_names (item.Reference r) rest w = absurd w
wire_names (item.Remark text) rest w = absurd w

pub no_names : (is : List Item) → Wires is → connector_names is ≡ []
no_names is no_more = refl
no_names is (wire {i = i} {is = rest} w ws) = wire_names i rest w ∙ no_names rest ws

-- ---- wires
pub min_low : (x y : ℤ) → x ≤ℤ y → int_min x y ≡ x
min_low x y h = let a = int_min_is x y in omega (arith, ints)

pub max_high : (x y : ℤ) → x ≤ℤ y → int_max x y ≡ y
max_high x y h = let a = int_max_is x y in omega (arith, ints)

rect_same : (a b c d w x y z : ℤ) → a ≡ w → b ≡ x → c ≡ y → d ≡ z → (λ (r : Rect). r) (record { x1 = a; y1 = b; x2 = c; y2 = d }) ≡ record { x1 = w; y1 = x; x2 = y; y2 = z }
rect_same a b c d w x y z p q r s =
    ap (λ v. record { x1 = v; y1 = b; x2 = c; y2 = d }) p ∙ ap (λ v. record { x1 = w; y1 = v; x2 = c; y2 = d }) q
    ∙ ap (λ v. record { x1 = w; y1 = x; x2 = v; y2 = d }) r ∙ ap (λ v. record { x1 = w; y1 = x; x2 = y; y2 = v }) s

abbrev pub unnamed_shape : ℕ → ℕ → Rect → shape.Shape
unnamed_shape m k r = record { metal = m; rect = r; owner = None; line = k; name = None }

module _ (own : ℕ → List ℕ) (call : Option ℕ → Name → name.Name) where
  -- a wire on metal 3, upwards
  pub riser_wire : (net : Net) (c r t : ℕ) (x y1 y2 : ℤ) (nm : Option name.Name) → x ≡ at_x c → y1 ≡ at_x r → y2 ≡ at_x t → r ≤ t
      → Drawn (shown own call) (upright_wire (Alu Three) (pos 200) x y1 y2 nm ∷ []) (record { net = net; line = Segment 3 200 true (at_x c) (at_x r) (at_x c) (at_x t) None } ∷ [])
  riser_wire net c r t x y1 y2 nm ex ey et le =
      one_line (shown own call) (upright_wire (Alu Three) (pos 200) x y1 y2 nm) _ refl
      (λ k. ap (λ v. unnamed_shape 3 k v ∷ []) (rect_same _ _ _ _ _ _ _ _
      (let a = min_low x x (omega (arith, ints)) in omega (arith, ints)) (let a = min_low y1 y2 (omega (arith, ints)) in omega (arith, ints))
      (let a = max_high x x (omega (arith, ints)) in omega (arith, ints)) (let a = max_high y1 y2 (omega (arith, ints)) in omega (arith, ints))))

  -- a wire on metal 2, to the right
  pub track_wire : (net : Net) (c d t : ℕ) (x1 x2 y : ℤ) (nm : Option name.Name) → x1 ≡ at_x c → x2 ≡ at_x d → y ≡ at_x t → c ≤ d
      → Drawn (shown own call) (level_wire (Alu Two) (pos 200) x1 x2 y nm ∷ []) (record { net = net; line = Segment 2 200 false (at_x c) (at_x t) (at_x d) (at_x t) None } ∷ [])
  track_wire net c d t x1 x2 y nm ex ey et le =
      one_line (shown own call) (level_wire (Alu Two) (pos 200) x1 x2 y nm) _ refl
      (λ k. ap (λ v. unnamed_shape 2 k v ∷ []) (rect_same _ _ _ _ _ _ _ _
      (let a = min_low x1 x2 (omega (arith, ints)) in omega (arith, ints)) (let a = min_low y y (omega (arith, ints)) in omega (arith, ints))
      (let a = max_high x1 x2 (omega (arith, ints)) in omega (arith, ints)) (let a = max_high y y (omega (arith, ints)) in omega (arith, ints))))

  -- a rail
  pub rail_wire : (net : Net) (e y : ℕ) (x : ℤ) (nm : Option name.Name) → x ≡ pos e → 500 ≤ e
      → Drawn (shown own call) (level_wire (Alu One) (pos 600) (pos 500) x (pos y) nm ∷ []) (record { net = net; line = Segment 1 600 false (pos 500) (pos y) (pos e) (pos y) None } ∷ [])
  rail_wire net e y x nm ex le =
      one_line (shown own call) (level_wire (Alu One) (pos 600) (pos 500) x (pos y) nm) _ refl
      (λ k. ap (λ v. unnamed_shape 1 k v ∷ []) (rect_same _ _ _ _ _ _ _ _
      (let a = min_low (pos 500) x (omega (arith, ints)) in omega (arith, ints)) (let a = min_low (pos y) (pos y) (omega (arith, ints)) in omega (arith, ints))
      (let a = max_high (pos 500) x (omega (arith, ints)) in omega (arith, ints)) (let a = max_high (pos y) (pos y) (omega (arith, ints)) in omega (arith, ints))))

  -- vias
  pub low_via : (net : Net) (c r : ℕ) (x y : ℤ) (nm : Option name.Name) → x ≡ at_x c → y ≡ at_x r
      → Drawn (shown own call) (contact_at Via1 x y nm ∷ []) (record { net = net; line = Via 1 (at_x c) (at_x r) } ∷ [])
  low_via net c r x y nm ex ey = one_line (shown own call) (contact_at Via1 x y nm) _ tt (λ k. ap (λ v. item_shapes k (contact_at Via1 v y nm)) ex ∙ ap (λ v. item_shapes k (contact_at Via1 (at_x c) v nm)) ey)

  pub high_via : (net : Net) (c r : ℕ) (x y : ℤ) (nm : Option name.Name) → x ≡ at_x c → y ≡ at_x r
      → Drawn (shown own call) (contact_at Via2 x y nm ∷ []) (record { net = net; line = Via 2 (at_x c) (at_x r) } ∷ [])
  high_via net c r x y nm ex ey = one_line (shown own call) (contact_at Via2 x y nm) _ tt (λ k. ap (λ v. item_shapes k (contact_at Via2 v y nm)) ex ∙ ap (λ v. item_shapes k (contact_at Via2 (at_x c) v nm)) ey)
