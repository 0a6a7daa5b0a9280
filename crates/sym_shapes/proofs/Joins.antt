-- Groups that hold joined shapes alone, and all that are linked, are the chains of links.
use Rattle.std.specs.List.{Contains}
use Rattle.std.proofs.lemmas.List.Elements.{Contains-append_left, Contains-push}
use Rattle.std.proofs.Common.{◌≡◌, ℕ, zero, suc, ◌<◌, inl, inr, ap, Bool, true, false, MatchBool, List, [], ◌∷◌, ◌++◌, length, get_or, refl, sym, ◌∙◌, subst, arith}
use Rattle.vlsi_base.specs.Member.{In, here, there}
use Rattle.sym_shapes.specs.Shape.{Shape}
use Rattle.sym_shapes.specs.Joined.{Linked, touching, one_line, one_name, Joined, itself, through}
use Rattle.sym_groups.specs.Ties.{Tied, Bridged, before, over, back, JoinsTies, Alone, LabelsTies}
use Rattle.sym_groups.proofs.Steps.{tied_then, tied_back}
use Rattle.sym_shapes.specs.declared.forest.Link.{Link}
use Rattle.sym_shapes.specs.declared.forest.Forest.{Forest}
use Rattle.sym_shapes.specs.Joints.{NumbersJoined, TiesJoined, link, AddsLink, Leads, arrived, along, LinksLead, AllLinked, Spans, Grows, Covers}

none_within : (l : Link) → Contains [] l → ⊥
none_within l h = let low = h.1 in omega (arith, low)

pub in_at : (xs : List Shape) (k : ℕ) (d : Shape) → k < length xs → In (get_or xs k d) xs
in_at [] k d h = absurd (omega arith)
in_at (x ∷ xs) zero d h = here
in_at (x ∷ xs) (suc k) d h = there (in_at xs k d (omega arith))

-- where a shape of the list stands
pub record Stands (xs : List Shape) (d a : Shape) : Type 0 where
  pub at : ℕ
  pub within : at < length xs
  pub is : get_or xs at d ≡ a

pub stands : {a : Shape} (xs : List Shape) (d : Shape) → In a xs → Stands xs d a
stands [] d h = elim h [ ]
stands (x ∷ xs) d here = record { at = 0; within = omega arith; is = refl }
stands (x ∷ xs) d (there h) = let r = stands xs d h in record { at = suc r.at; within = let w = r.within in omega arith; is = r.is }

pub linked_back : {a b : Shape} → Linked a b → Linked b a
linked_back (touching e m) = touching (sym e) (record { left = m.right; right = m.left; low = m.high; high = m.low })
linked_back (one_line o l) = one_line (sym o) (sym l)
linked_back (one_name o n f s) = one_name (sym o) n s f

pub joined_then : {all : List Shape} {a b c : Shape} → Joined all a b → Joined all b c → Joined all a c
joined_then (itself h) second = second
joined_then (through h link rest) second = through h link (joined_then rest second)

first_in : {all : List Shape} {a b : Shape} → Joined all a b → In a all
first_in (itself h) = h
first_in (through h link rest) = h

pub leads_then : {links : List Link} {i k j : ℕ} → Leads links i k → Leads links k j → Leads links i j
leads_then arrived second = second
leads_then (along h rest) second = along h (leads_then rest second)

pub leads_more : {olds news : List Link} → ((l : Link) → Contains olds l → Contains news l) → {i j : ℕ} → Leads olds i j → Leads news i j
leads_more kept arrived = arrived
leads_more kept (along {i} {k} h rest) = along (kept (link i k) h) (leads_more kept rest)

-- a link both ways leads over the bridge that it is
pub leads_bridged : (ps : List ℕ) (links : List Link) (a b : ℕ) → Contains links (link a b) → Contains links (link b a)
    → ((i j : ℕ) → Tied ps i j → Leads links i j) → {i j : ℕ} → Bridged ps a b i j → Leads links i j
leads_bridged ps links a b forth again leads (before t) = leads _ _ t
leads_bridged ps links a b forth again leads (over t u) = leads_then (leads _ _ t) (along forth (leads _ _ u))
leads_bridged ps links a b forth again leads (back t u) = leads_then (leads _ _ t) (along again (leads _ _ u))

pub both_ways : (ps : List ℕ) (olds : List Link) (a b : ℕ) → ((i j : ℕ) → Tied ps i j → Leads olds i j) → {i j : ℕ} → Bridged ps a b i j
    → Leads ((olds ++ link a b ∷ []) ++ link b a ∷ []) i j
both_ways ps olds a b leads h =
    let mids : List Link = olds ++ link a b ∷ [] in
    leads_bridged ps (mids ++ link b a ∷ []) a b (Contains-append_left mids (link b a ∷ []) (link a b) (Contains-push olds (link a b))) (Contains-push mids (link b a))
    (λ i j t. leads_more (λ l g. Contains-append_left mids (link b a ∷ []) l (Contains-append_left olds (link a b ∷ []) l g)) (leads i j t)) h

-- the bridge of two numbers that are not apart leads nowhere else
tied_bridged : {ps : List ℕ} {a b i j : ℕ} → Tied ps a b → Bridged ps a b i j → Tied ps i j
tied_bridged t (before u) = u
tied_bridged t (over u v) = tied_then u (tied_then t v)
tied_bridged t (back u v) = tied_then u (tied_then (tied_back t) v)

-- nor does that of two numbers that a join found in one group
pub led_before : (ps : List ℕ) (links : List Link) (a b : ℕ) (r : Bool) → r ≡ false → MatchBool r (Tied ps a b → ⊥) (Tied ps a b)
    → ((i j : ℕ) → Tied ps i j → Leads links i j) → {i j : ℕ} → Bridged ps a b i j → Leads links i j
led_before ps links a b false e h leads bridge = leads _ _ (tied_bridged h bridge)
led_before ps links a b true e h leads bridge = absurd (cc e)

-- links that are true, and one more between linked shapes
pub linked_more : (shapes : List Shape) (olds news : List Link) (a b : ℕ) → a < length shapes → b < length shapes
    → ((d : Shape) → Linked (get_or shapes a d) (get_or shapes b d)) → AddsLink olds news a b → AllLinked shapes olds → AllLinked shapes news
linked_more shapes olds news a b ha hb truly adds olds_linked i j h = elim (adds.only (link i j) h) [
  | inl old ↦ olds_linked i j old
  | inr new ↦ elim new [
    | inl is ↦
        let ia : i ≡ a = ap (λ (l : Link). l.from) is in
        let jb : j ≡ b = ap (λ (l : Link). l.to) is in
        (rw ia ha, rw jb hb, rw (ia, jb) truly)
    | inr is ↦
        let ib : i ≡ b = ap (λ (l : Link). l.from) is in
        let ja : j ≡ a = ap (λ (l : Link). l.to) is in
        (rw ib hb, rw ja ha, rw (ib, ja) (λ d. linked_back (truly d)))
  ]
]

-- two linked shapes are put into one group
pub grows_by : (shapes : List Shape) (f g : Forest) (a b : ℕ) → a < length shapes → b < length shapes
    → ((d : Shape) → Linked (get_or shapes a d) (get_or shapes b d)) → JoinsTies f.groups g.groups a b
    → AddsLink f.links.items g.links.items a b → (LinksLead f → LinksLead g) → Grows shapes f g
grows_by shapes f g a b ha hb truly w adds leads = record {
  many = w.many;
  kept = w.kept;
  spans = λ s. record { linked = linked_more shapes f.links.items g.links.items a b ha hb truly adds s.linked; leads = leads s.leads };
}

pub grows_none : (shapes : List Shape) (f : Forest) → Grows shapes f f
grows_none shapes f = record { many = refl; kept = λ i j t. t; spans = λ h. h }

pub grows_then : {shapes : List Shape} {f g h : Forest} → Grows shapes f g → Grows shapes g h → Grows shapes f h
grows_then v w = record { many = v.many ∙ w.many; kept = λ i j t. w.kept i j (v.kept i j t); spans = λ s. w.spans (v.spans s) }

pub alone_spans : (shapes : List Shape) (f : Forest) → Alone f.groups → f.links.items ≡ [] → Spans shapes f
alone_spans shapes f alone none = record {
  linked = λ i j h. absurd (none_within (link i j) (subst (λ (ls : List Link). Contains ls (link i j)) none h));
  leads = λ i j t. subst (λ (k : ℕ). Leads f.links.items i k) (alone i j t) arrived;
}

joined_led : (shapes : List Shape) (links : List Link) (d : Shape) → AllLinked shapes links → {i j : ℕ} → j < length shapes → Leads links i j
    → Joined shapes (get_or shapes i d) (get_or shapes j d)
joined_led shapes links d truly within arrived = itself (in_at shapes _ d within)
joined_led shapes links d truly within (along {i} {k} h rest) =
    let l = truly i k h in
    through (in_at shapes i d l.0) (l.2 d) (joined_led shapes links d truly within rest)

-- shapes in one group are joined
pub ties_joined : (shapes : List Shape) (f : Forest) → Spans shapes f → TiesJoined shapes f.groups
ties_joined shapes f s i j d hi hj t = joined_led shapes f.links.items d s.linked hj (s.leads i j t)

-- a chain of links stays in one group
pub tied_so : (shapes : List Shape) (ps : List ℕ) (d : Shape) → Covers shapes ps → {a b : Shape} → Joined shapes a b
    → (i j : ℕ) → i < length shapes → j < length shapes → get_or shapes i d ≡ a → get_or shapes j d ≡ b → Tied ps i j
tied_so shapes ps d covers (itself h) i j hi hj ia jb =
    covers i j d hi hj (rw (ia, jb) (one_line refl refl))
tied_so shapes ps d covers (through {b = mid} h link rest) i j hi hj ia jb =
    let k = stands shapes d (first_in rest) in
    tied_then (covers i k.at d hi k.within (rw (ia, k.is) link)) (tied_so shapes ps d covers rest k.at j k.within hj k.is jb)

-- the theorem of the groups
pub numbers_so : (shapes : List Shape) (ps numbers : List ℕ) → length ps ≡ length shapes → TiesJoined shapes ps → Covers shapes ps → LabelsTies ps numbers → NumbersJoined shapes numbers
numbers_so shapes ps numbers many sound covers labels i j d hi hj =
    let both = labels i j (rw many hi) (rw many hj) in
    (λ e. sound i j d hi hj (both.0 e), λ joined. both.1 (tied_so shapes ps d covers joined i j hi hj refl refl))

pub any_default : (xs : List Shape) (k : ℕ) (d e : Shape) → k < length xs → get_or xs k d ≡ get_or xs k e
any_default [] k d e h = absurd (omega arith)
any_default (x ∷ xs) zero d e h = refl
any_default (x ∷ xs) (suc k) d e h = any_default xs k d e (omega arith)

-- what was read at a place is what stands there
pub read_at : (xs : List Shape) (k : ℕ) (d a : Shape) → k < length xs → a ≡ get_or xs k a → a ≡ get_or xs k d
read_at xs k d a h e = e ∙ any_default xs k a d h
