-- Turns of a walk: what stays true, and that they come to an end.
use Rattle.std.proofs.Common.{◌≡◌, ◌≢◌, ℕ, ◌+◌, ◌-◌, ◌<◌, ◌≤◌, zero, suc, inl, inr, List, [], ◌∷◌, ◌++◌, length, get_or, set, drop, arith, sym, ◌∙◌, refl, subst, ap, length-append, length-drop, map, Vec, Global, get_or-set_other, get_or-set_same}
use Rattle.std.specs.List.{All}
use Rattle.std.proofs.lemmas.Bool.{cases_eq}
use Rattle.std.proofs.lemmas.List.{get_or_default, get_or-drop, get_or-map, length-map}
use Rattle.std.proofs.lemmas.List.Elements.{All-from_get_or, All-get_or}
use Rattle.std.proofs.lemmas.List.Sums.{sum_by-set}
use Rattle.std.proofs.Math.Seq.{get_or-append_seam}
use Rattle.bit_order.specs.declared.walk.Walk.{Walk}
use Rattle.bit_order.specs.declared.walk.Mark.{Mark}
use Rattle.bit_order.specs.declared.walk.Mark.TheVariants as mark
use Rattle.bit_order.specs.Order.{reads_of, Reads, StandsBefore, NoneTwice, IsSortedOrder}
use Rattle.bit_order.specs.Walk.{mark_of, new_weight, unread, IsWalk, IsWalkOf, Entered, Finished, Passed, Goes, Keeps, Begun, BegunAt, IsLast, IsReadAt, IsRingFrom}
use Rattle.bit_order.proofs.Walking.{marked_inside, walk_entered, walk_finished, walk_passed}

-- a mark that isn't New is written over one
keeps_set : (marks : List Mark) (node : ℕ) (m : Mark) (k : ℕ) → node < length marks → m ≢ mark.New → mark_of marks k ≢ mark.New → mark_of (set marks node m) k ≢ mark.New
keeps_set marks node m k inside written met is = elim (cases_eq k node) [
  | inl h ↦ written (sym (ap (mark_of (set marks node m)) h ∙ get_or-set_same marks node m mark.New inside) ∙ is)
  | inr h ↦ met (sym (get_or-set_other marks node k m mark.New h) ∙ is)
]

unread_set : (reads : List (List ℕ)) (nexts : List ℕ) (node : ℕ) → node < length reads → node < length nexts → get_or nexts node 0 < length (reads_of reads node)
    → unread reads (set nexts node (get_or nexts node 0 + 1)) + 1 ≡ unread reads nexts
unread_set [] nexts node low inside more = absurd (omega arith)
unread_set (nodes ∷ reads) [] node low inside more = absurd (omega arith)
unread_set (nodes ∷ reads) (next ∷ nexts) zero low inside more = omega arith
unread_set (nodes ∷ reads) (next ∷ nexts) (suc node) low inside more = omega (arith, unread_set reads nexts node (omega arith) (omega arith) more)

pub last_marked : (reads : List (List ℕ)) (w : Walk) (node : ℕ) → IsWalkOf reads w → IsLast w.path.items node → mark_of w.marks.items node ≡ mark.Open (length w.path.items - 1)
last_marked reads w node walk last = ap (mark_of w.marks.items) (sym last.is) ∙ walk.path_marks (length w.path.items - 1) (let some = last.some in omega arith)

pub last_inside : (reads : List (List ℕ)) (w : Walk) (node : ℕ) → IsWalkOf reads w → IsLast w.path.items node → node < length reads
last_inside reads w node walk last =
    let low = marked_inside w.marks.items node (λ e. let no_way : mark.New ≡ mark.Open (length w.path.items - 1) = sym e ∙ last_marked reads w node walk last in absurd (cc)) in
    let marked = walk.marked in
    omega arith

pub entered_goes : (reads : List (List ℕ)) (old new : Walk) (node : ℕ) → IsWalkOf reads old → Entered old new node → node < length reads → mark_of old.marks.items node ≡ mark.New
    → ((place : ℕ) → place + 1 ≡ length old.path.items → Reads reads (get_or old.path.items place 0) node) → Goes reads old new
entered_goes reads old new node walk e low is_new linked =
    let marked = walk.marked in
    let inside : node < length old.marks.items = omega arith in record {
      walk = rw (e.marks, e.nexts, e.path, e.sorted) (walk_entered reads old.marks.items old.nexts.items old.path.items old.sorted.items node walk inside is_new linked);
      keeps = λ k met. rw e.marks (keeps_set old.marks.items node (mark.Open (length old.path.items)) k inside (λ h. absurd (cc)) met);
      nearer =
          let weight : new_weight (mark_of old.marks.items node) ≡ 2 = ap new_weight is_new in
          rw (e.marks, e.nexts, e.path)
          (omega (arith, length-append old.path.items (node ∷ []), sum_by-set new_weight old.marks.items node (mark.Open (length old.path.items)) mark.New inside));
    }

-- the node that was taken from the path was its last one
finished_path : (old new : List ℕ) (node last : ℕ) → IsLast old node → old ≡ new ++ last ∷ [] → old ≡ new ++ node ∷ []
finished_path old new node last was is =
    let n : length old ≡ length new + 1 = ap length is ∙ length-append new (last ∷ []) in
    let at : length old - 1 ≡ length new = omega arith in
    let same : last ≡ node = sym (get_or-append_seam new last [] 0) ∙ ap (λ (xs : List ℕ). get_or xs (length new) 0) (sym is) ∙ ap (λ (k : ℕ). get_or old k 0) (sym at) ∙ was.is in
    is ∙ ap (λ (x : ℕ). new ++ x ∷ []) same

pub finished_goes : (reads : List (List ℕ)) (old new : Walk) (node : ℕ) → IsWalkOf reads old → Finished old new node → IsLast old.path.items node
    → length (reads_of reads node) ≤ get_or old.nexts.items node 0 → Goes reads old new
finished_goes reads old new node walk e last read =
    let marked = walk.marked in
    let low = last_inside reads old node walk last in
    let inside : node < length old.marks.items = omega arith in
    let path : old.path.items ≡ new.path.items ++ node ∷ [] = finished_path old.path.items new.path.items node e.path.0 last e.path.1 in
    let P : List ℕ → Type 0 = λ xs. IsWalk reads old.marks.items old.nexts.items xs old.sorted.items in
    record {
      walk = rw (e.marks, e.nexts, e.sorted) (walk_finished reads old.marks.items old.nexts.items new.path.items old.sorted.items node (subst P path walk) read);
      keeps = λ k met. rw e.marks (keeps_set old.marks.items node (mark.Done (length old.sorted.items)) k inside (λ h. absurd (cc)) met);
      nearer =
          let weight : new_weight (mark_of old.marks.items node) ≡ 0 = ap new_weight (last_marked reads old node walk last) in
          let shorter : length old.path.items ≡ length new.path.items + 1 = ap length path ∙ length-append new.path.items (node ∷ []) in
          rw (e.marks, e.nexts)
          (omega (arith, sum_by-set new_weight old.marks.items node (mark.Done (length old.sorted.items)) mark.New inside));
    }

pub passed_goes : (reads : List (List ℕ)) (old new : Walk) (node next read place : ℕ) → IsWalkOf reads old → Passed old new node → IsLast old.path.items node
    → next ≡ get_or old.nexts.items node 0 → IsReadAt reads node next read → mark_of old.marks.items read ≡ mark.Done place → Goes reads old new
passed_goes reads old new node next read place walk e last at reads_it done =
    let low = last_inside reads old node walk last in
    let counted = walk.counted in
    let inside : node < length old.nexts.items = omega arith in
    let read_is : get_or (reads_of reads node) (get_or old.nexts.items node 0) 0 ≡ read = ap (λ (k : ℕ). get_or (reads_of reads node) k 0) (sym at) ∙ reads_it.is in
    let more : get_or old.nexts.items node 0 < length (reads_of reads node) = let h = reads_it.inside in omega arith in
    record {
      walk = rw (e.marks, e.nexts, e.path, e.sorted) (walk_passed reads old.marks.items old.nexts.items old.path.items old.sorted.items node place walk inside (ap (mark_of old.marks.items) read_is ∙ done));
      keeps = λ k met. rw e.marks met;
      nearer = rw (e.marks, e.nexts, e.path) (omega (arith, unread_set reads old.nexts.items node low inside more));
    }

-- a node on the path is one of the nodes
path_inside : (reads : List (List ℕ)) (w : Walk) (place : ℕ) → IsWalkOf reads w → place < length w.path.items → get_or w.path.items place 0 < length reads
path_inside reads w place walk low =
    let marked = walk.marked in
    let inside = marked_inside w.marks.items (get_or w.path.items place 0) (λ e. let no_way : mark.New ≡ mark.Open place = sym e ∙ walk.path_marks place low in absurd (cc)) in
    omega arith

pub path_once : (reads : List (List ℕ)) (w : Walk) → IsWalkOf reads w → NoneTwice w.path.items
path_once reads w walk i j low high same =
    let both : mark.Open i ≡ mark.Open j = sym (walk.path_marks i low) ∙ ap (mark_of w.marks.items) same ∙ walk.path_marks j high in
    cc

-- the last node of the path reads it
reads_at : (reads : List (List ℕ)) (node next read : ℕ) → IsReadAt reads node next read → Reads reads node read
reads_at reads node next read at = (next, at.inside, get_or_default (reads_of reads node) next read 0 at.inside ∙ at.is)

pub linked_on : (reads : List (List ℕ)) (path : List ℕ) (node next read : ℕ) → IsLast path node → IsReadAt reads node next read
    → (place : ℕ) → place + 1 ≡ length path → Reads reads (get_or path place 0) read
linked_on reads path node next read last at place is =
    let here : length path - 1 ≡ place = omega arith in
    let P : ℕ → Type 0 = λ n. Reads reads n read in
    subst P (sym last.is ∙ ap (λ (k : ℕ). get_or path k 0) here) (reads_at reads node next read at)

-- the path has come back to itself
pub ring_found : (reads : List (List ℕ)) (w : Walk) (node next read first : ℕ) → IsWalkOf reads w → IsLast w.path.items node → IsReadAt reads node next read
    → mark_of w.marks.items read ≡ mark.Open first → IsRingFrom reads w first
ring_found reads w node next read first walk last at open_at =
    let begins = walk.open_places read first open_at in
    let path : List ℕ = w.path.items in
    let n : length (drop first path) ≡ length path - first = length-drop first path in
    let each : (i : ℕ) → get_or (drop first path) i 0 ≡ get_or path (first + i) 0 = λ i. get_or-drop first path i 0 in
    record {
      inside = omega arith;
      ring = record {
        inside = All-from_get_or (λ k. k < length reads) (drop first path) 0 (λ i low. rw (each i) (path_inside reads w (first + i) walk (omega arith)));
        once = λ i j low high same.
            let both : first + i ≡ first + j = path_once reads w walk (first + i) (first + j) (omega arith) (omega arith) (sym (each i) ∙ same ∙ each j) in
            omega arith;
        round = record {
          some = omega arith;
          next = λ place low.
              let on : get_or (drop first path) (place + 1) 0 ≡ get_or path (first + place + 1) 0 = each (place + 1) ∙ ap (λ (k : ℕ). get_or path k 0) (omega arith) in
              rw (each place, on) (walk.links (first + place) (omega arith));
          first =
              let end : get_or (drop first path) (length (drop first path) - 1) 0 ≡ node = each (length (drop first path) - 1) ∙ ap (λ (k : ℕ). get_or path k 0) (omega arith) ∙ last.is in
              let front : get_or (drop first path) 0 0 ≡ read = each 0 ∙ ap (λ (k : ℕ). get_or path k 0) (omega arith) ∙ begins.1 in
              rw (end, front) (reads_at reads node next read at);
        };
      };
    }

-- a path begins at a node, if it wasn't met yet
pub record Begins (reads : List (List ℕ)) (old new : Walk) (node : ℕ) : Type 0 where
  pub walk : IsWalkOf reads new
  pub keeps : Keeps old new
  pub met : mark_of new.marks.items node ≢ mark.New

pub begins : (reads : List (List ℕ)) (old new : Walk) (node : ℕ) → IsWalkOf reads old → old.path.items ≡ [] → node < length reads → Begun old new node → Begins reads old new node
begins reads old new node walk idle low begun = by (mark_of old.marks.items node) refl begun where
  stays : (m : Mark) → mark_of old.marks.items node ≡ m → m ≢ mark.New → new ≡ old → Begins reads old new node
  stays m is met same = let P : Walk → Type 0 = λ w. Begins reads old w node in subst P (sym same) (record { walk = walk; keeps = λ k h. h; met = λ h. met (sym is ∙ h) })

  by : (m : Mark) → mark_of old.marks.items node ≡ m → BegunAt old new node m → Begins reads old new node
  by mark.New is e =
      let goes = entered_goes reads old new node walk e low is (λ place at. let none = ap length idle in absurd (omega arith)) in
      let marked = walk.marked in
      let inside : node < length old.marks.items = omega arith in
      record {
        walk = goes.walk;
        keeps = goes.keeps;
        met = λ h.
            let no_way : mark.Open (length old.path.items) ≡ mark.New = sym (ap (λ (marks : List Mark). mark_of marks node) e.marks ∙ get_or-set_same old.marks.items node (mark.Open (length old.path.items)) mark.New inside) ∙ h in
            absurd (cc);
      }
  by (mark.Open place) is e = stays (mark.Open place) is (λ h. absurd (cc)) e
  by (mark.Done place) is e = stays (mark.Done place) is (λ h. absurd (cc)) e

-- all nodes are in order where each was met and no path is left
pub all_sorted : (reads : List (List ℕ)) (w : Walk) → IsWalkOf reads w → w.path.items ≡ [] → ((node : ℕ) → node < length reads → mark_of w.marks.items node ≢ mark.New) → IsSortedOrder reads w.sorted.items
all_sorted reads w walk idle met = record {
  inside = All-from_get_or (λ k. k < length reads) w.sorted.items 0 (λ i low.
      let marked = walk.marked in
      let inside = marked_inside w.marks.items (get_or w.sorted.items i 0) (λ e. let no_way : mark.New ≡ mark.Done i = sym e ∙ walk.sorted_marks i low in absurd (cc)) in
      omega arith);
  once = λ i j low high same.
      let both : mark.Done i ≡ mark.Done j = sym (walk.sorted_marks i low) ∙ ap (mark_of w.marks.items) same ∙ walk.sorted_marks j high in
      cc;
  complete = λ node low. by node (mark_of w.marks.items node) refl (met node low);
  behind = λ place low. All-from_get_or (StandsBefore w.sorted.items place) (reads_of reads (get_or w.sorted.items place 0)) 0 (λ k inner. walk.behind place k low inner);
} where
  by : (node : ℕ) (m : Mark) → mark_of w.marks.items node ≡ m → mark_of w.marks.items node ≢ mark.New → StandsBefore w.sorted.items (length w.sorted.items) node
  by node mark.New is apart = absurd (apart is)
  by node (mark.Open place) is apart = let none = ap length idle in let on = walk.open_places node place is in absurd (omega arith)
  by node (mark.Done place) is apart = let at = walk.done_places node place is in (place, at.0, at.1)

-- what the code has read

pub mark_read : (marks : List Mark) (node : ℕ) (m r : Mark) → r ≡ get_or marks node r → r ≡ m → node < length marks → mark_of marks node ≡ m
mark_read marks node m r is at low = sym (is ∙ get_or_default marks node r mark.New low) ∙ at

abbrev pub lists : List (Vec ℕ Global) → List (List ℕ)
lists reads = map (λ nodes. nodes.items) reads

pub lists_length : (reads : List (Vec ℕ Global)) → length (lists reads) ≡ length reads
lists_length reads = simp length-map

pub reads_of_list : (reads : List (Vec ℕ Global)) (node : ℕ) (v : Vec ℕ Global) → v ≡ get_or reads node v → node < length reads → reads_of (lists reads) node ≡ v.items
reads_of_list reads node v is low =
    get_or-map (λ (nodes : Vec ℕ Global). nodes.items) reads node v [] low ∙ ap (λ (nodes : Vec ℕ Global). nodes.items) (sym is)

pub next_read : (nexts : List ℕ) (node next : ℕ) → next ≡ get_or nexts node next → node < length nexts → next ≡ get_or nexts node 0
next_read nexts node next is low = is ∙ get_or_default nexts node next 0 low

pub read_inside : (reads : List (Vec ℕ Global)) (node next read : ℕ) (v : Vec ℕ Global) → All (λ nodes. All (λ n. n < length reads) nodes.items) reads
    → v ≡ get_or reads node v → node < length reads → next < length v.items → read ≡ get_or v.items next 0 → read < length reads
read_inside reads node next read v all is low inner at =
    let P : Vec ℕ Global → Type 0 = λ nodes. All (λ n. n < length reads) nodes.items in
    let each : All (λ n. n < length reads) v.items = subst P (sym is) (All-get_or P reads node v low all) in
    let here : get_or v.items next 0 < length reads = All-get_or (λ n. n < length reads) v.items next 0 inner each in
    omega arith
