-- Parts of a netlist that grow.
use Rattle.std.proofs.Common.{◌≡◌, ℕ, zero, suc, ◌+◌, ◌<◌, ◌≤◌, ◌^◌, ◌⊎◌, inl, inr, List, [], ◌∷◌, ◌++◌, length, get_or, take, map, Option, Some, None, true, false, Result, Ok, Err, refl, sym, ap, subst, ◌∙◌, append-nil, arith}
use Rattle.std.specs.Prelude.{MatchOption}
use Rattle.std.specs.List.{All, flat_map}
use Rattle.std.specs.Option.{is_some}
use Rattle.std.specs.Result.{OnErr}
use Rattle.std.proofs.lemmas.List.{length-map, length-append, take-append-le, map-append}
use Rattle.std.proofs.lemmas.List.Elements.{All-push}
use Rattle.std.proofs.lemmas.Grind.{flat_map-append}
use Rattle.std.proofs.lemmas.Bool.{cases_lt}
use Rattle.std.proofs.lemmas.Option.{get_or_from_slice_get}
use Rattle.vlsi_base.specs.declared.name.Port.{Port}
use Rattle.net_core.specs.declared.frame.Node.{Node}
use Rattle.net_core.specs.Places.{Stands, IsThere, Learned, IsShortened, position_of}
use Rattle.net_core.specs.Netlist.{Instance, pin_of, AreInOrder}
use Rattle.net_core.specs.Frame.{Frame, instance_of, frame_of, node_pins, IsFrame, AddsInstance}
use Rattle.net_core.proofs.Standing.{position_absent, position_stands, none_twice_push}

pub learned_grows : (old new : List (List ℕ)) (t : List ℕ) → Learned old new t → (rest : List (List ℕ)) × (new ≡ old ++ rest)
learned_grows old new t l = by (position_of old t) l where
  by : (o : Option ℕ) → MatchOption o (new ≡ old ++ t ∷ []) (λ _. new ≡ old) → (rest : List (List ℕ)) × (new ≡ old ++ rest)
  by None e = (t ∷ [], e)
  by (Some k) e = ([], e ∙ sym (append-nil old))

get_left : (xs ys : List (List ℕ)) (k : ℕ) (d : List ℕ) → k < length xs → get_or (xs ++ ys) k d ≡ get_or xs k d
get_left [] ys k d l = absurd (omega (arith, l))
get_left (x ∷ xs) ys zero d l = refl
get_left (x ∷ xs) ys (suc k) d l = get_left xs ys k d (omega (arith, l))

named_alike : (models rest : List (List ℕ)) (i : Node) → i.model < length models → instance_of (models ++ rest) i ≡ instance_of models i
named_alike models rest i l = ap (λ (m : List ℕ). made m) (get_left models rest i.model [] l) where
  made : List ℕ → Instance
  made m = record { name = i.name; model = m; pins = i.pins }

pub mapped_alike : (models rest : List (List ℕ)) (nodes : List Node) → All (λ i. i.model < length models) nodes → map (instance_of (models ++ rest)) nodes ≡ map (instance_of models) nodes
mapped_alike models rest [] known = refl
mapped_alike models rest (i ∷ nodes) known =
    let e = named_alike models rest i (known 0 i (omega arith)) in
    ap (λ (x : Instance). x ∷ map (instance_of (models ++ rest)) nodes) e ∙ ap (λ (xs : List Instance). instance_of models i ∷ xs) (mapped_alike models rest nodes (λ k d l. known (suc k) d (omega (arith, l))))

pub models_same : (old new : List (List ℕ)) (t : List ℕ) (nodes : List Node) → Learned old new t → All (λ i. i.model < length old) nodes → map (instance_of new) nodes ≡ map (instance_of old) nodes
models_same old new t nodes l known =
    let g = learned_grows old new t l in
    ap (λ (ms : List (List ℕ)). map (instance_of ms) nodes) g.1 ∙ mapped_alike old g.0 nodes known

pub frame_models : {ports : List Port} {old : List (List ℕ)} {nodes : List Node} {names : List (List ℕ)} {count : ℕ} → IsFrame ports old nodes names count
    → (new : List (List ℕ)) → length old ≤ length new → IsFrame ports new nodes names count
frame_models {ports} {old} {nodes} {names} {count} frame new more = record {
  sorted = frame.sorted;
  listed = frame.listed;
  once = frame.once;
  pins = frame.pins;
  known = λ k d l. let w = frame.known k d l in omega (arith, w, more);
  firsts = frame.firsts;
  counted = frame.counted;
  few = frame.few;
}

pub learned_more : (old new : List (List ℕ)) (t : List ℕ) → Learned old new t → length old ≤ length new
learned_more old new t l = let g = learned_grows old new t l in let n = length-append old g.0 in let e : length new ≡ length (old ++ g.0) = ap length g.1 in omega (arith, n, e)

flat_one : (nodes : List Node) (node : Node) → length (flat_map node_pins (nodes ++ node ∷ [])) ≡ length (flat_map node_pins nodes) + length node.pins
flat_one nodes node =
    let e : length (flat_map node_pins (nodes ++ node ∷ [])) ≡ length (flat_map node_pins nodes ++ flat_map node_pins (node ∷ [])) = ap length (flat_map-append node_pins nodes (node ∷ [])) in
    let m = length-append (flat_map node_pins nodes) (flat_map node_pins (node ∷ [])) in
    let n = length-append (node_pins node) [] in
    let o : length (node_pins node) ≡ length node.pins = length-map node.pins (pin_of node.name) in
    omega (arith, e, m, n, o)

last_is : (nodes : List Node) (node d : Node) → get_or (nodes ++ node ∷ []) (length nodes) d ≡ node
last_is [] node d = refl
last_is (x ∷ nodes) node d = last_is nodes node d

before_last : (nodes : List Node) (node d : Node) (k : ℕ) → k < length nodes → get_or (nodes ++ node ∷ []) k d ≡ get_or nodes k d
before_last [] node d k l = absurd (omega (arith, l))
before_last (x ∷ nodes) node d zero l = refl
before_last (x ∷ nodes) node d (suc k) l = before_last nodes node d k (omega (arith, l))

take_all : (nodes : List Node) → take (length nodes) nodes ≡ nodes
take_all [] = refl
take_all (x ∷ nodes) = ap (λ (xs : List Node). x ∷ xs) (take_all nodes)

pub frame_push : {ports : List Port} {models : List (List ℕ)} {nodes : List Node} {names : List (List ℕ)} {count : ℕ} → IsFrame ports models nodes names count
    → (node : Node) → AreInOrder node.pins → node.model < length models → node.first ≡ count → position_of names node.name ≡ None → count + length node.pins < 2 ^ 32
    → IsFrame ports models (nodes ++ node ∷ []) (names ++ node.name ∷ []) (count + length node.pins)
frame_push {ports} {models} {nodes} {names} {count} frame node order model first fresh few = record {
  sorted = frame.sorted;
  listed = ap (λ (xs : List (List ℕ)). xs ++ node.name ∷ []) frame.listed ∙ sym (map-append (λ (i : Node). i.name) nodes (node ∷ []));
  once = none_twice_push names node.name frame.once (position_absent names node.name fresh);
  pins = All-push (λ (i : Node). AreInOrder i.pins) nodes node frame.pins order;
  known = All-push (λ (i : Node). i.model < length models) nodes node frame.known model;
  firsts = λ k d l. by k d l (cases_lt k (length nodes));
  counted = let n = flat_one nodes node in omega (arith, n, frame.counted);
  few = few;
} where
  by : (k : ℕ) (d : Node) → k < length (nodes ++ node ∷ []) → (k < length nodes) ⊎ (length nodes ≤ k)
      → (get_or (nodes ++ node ∷ []) k d).first ≡ length ports + length (flat_map node_pins (take k (nodes ++ node ∷ [])))
  by k d l (inl less) =
      let t : take k (nodes ++ node ∷ []) ≡ take k nodes = take-append-le k nodes (node ∷ []) (omega (arith, less)) in
      rw (before_last nodes node d k less, t) (frame.firsts k d less)
  by k d l (inr more) =
      let n = length-append nodes (node ∷ []) in
      let e : length nodes ≡ k = omega (arith, l, more, n) in
      subst (λ j. (get_or (nodes ++ node ∷ []) j d).first ≡ length ports + length (flat_map node_pins (take j (nodes ++ node ∷ [])))) e
      (let t : take (length nodes) (nodes ++ node ∷ []) ≡ nodes = take-append-le (length nodes) nodes (node ∷ []) (omega arith) ∙ take_all nodes in
      rw (last_is nodes node d, t) (first ∙ frame.counted))

names_of_instances : (models : List (List ℕ)) (nodes : List Node) → map (λ (i : Instance). i.name) (map (instance_of models) nodes) ≡ map (λ (i : Node). i.name) nodes
names_of_instances models [] = refl
names_of_instances models (i ∷ nodes) = ap (λ (xs : List (List ℕ)). i.name ∷ xs) (names_of_instances models nodes)

pub names_seen : {ports : List Port} {models : List (List ℕ)} {nodes : List Node} {names : List (List ℕ)} {count : ℕ} → IsFrame ports models nodes names count
    → (f : Frame) → frame_of ports models nodes ≡ f → map (λ (i : Instance). i.name) f.instances ≡ names
names_seen {ports} {models} {nodes} {names} {count} frame f view = ap (λ (g : Frame). map (λ (i : Instance). i.name) g.instances) (sym view) ∙ names_of_instances models nodes ∙ sym frame.listed

pub some_there : (names : List (List ℕ)) (name : List ℕ) (o : Option ℕ) → o ≡ position_of names name → is_some o ≡ true → IsThere names name
some_there names name None e s = absurd cc
some_there names name (Some k) e s = (k, position_stands names name k (sym e))

pub none_of : (o : Option ℕ) → is_some o ≡ false → o ≡ None
none_of None s = refl
none_of (Some k) s = absurd cc

pub on_err : {T E P : Type 0} (r : Result T E) → P → OnErr r P
on_err (Ok x) p = tt
on_err (Err e) p = p

pub adds_instance : {ports : List Port} {models : List (List ℕ)} {nodes : List Node} {names : List (List ℕ)} {count : ℕ} → IsFrame ports models nodes names count
    → (f : Frame) → frame_of ports models nodes ≡ f → (new : List (List ℕ)) (t : List ℕ) (items : List Node) (node : Node) → Learned models new t → Stands new node.model t → items ≡ nodes ++ node ∷ []
    → AddsInstance f (frame_of ports new items) (record { name = node.name; model = t; pins = node.pins })
adds_instance {ports} {models} {nodes} {names} {count} frame f view new t items node learned stands pushed = record {
  ports = ap (λ (g : Frame). g.ports) view;
  models = subst (λ (g : Frame). Learned g.models new t) view learned;
  instances =
      ap (map (instance_of new)) pushed ∙ map-append (instance_of new) nodes (node ∷ [])
      ∙ ap (λ (xs : List Instance). xs ++ instance_of new node ∷ []) (models_same models new t nodes learned frame.known ∙ ap (λ (g : Frame). g.instances) view)
      ∙ ap (λ (m : List ℕ). f.instances ++ made m ∷ []) (get_or_from_slice_get new node.model t [] stands);
} where
  made : List ℕ → Instance
  made m = record { name = node.name; model = m; pins = node.pins }

-- what was learned is taken away again
pub unlearned : (old mid new : List (List ℕ)) (t : List ℕ) (count : ℕ) → Learned old mid t → count ≡ length old → IsShortened mid new count → new ≡ old
unlearned old mid new t count l e short = by (position_of old t) l where
  by : (o : Option ℕ) → MatchOption o (mid ≡ old ++ t ∷ []) (λ _. mid ≡ old) → new ≡ old
  by None p = short.last old t p (sym e)
  by (Some k) p = short.kept (let n : length mid ≡ length old = ap length p in omega (arith, n, e)) ∙ p
