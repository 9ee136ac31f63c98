-- Lists of instructions and of addresses, one more at the end.
use Rattle.std.proofs.Common.{◌≡◌, ℕ, suc, ◌+◌, ◌<◌, List, [], ◌∷◌, ◌++◌, length, map, take, get_or, refl, sym, ap, ◌∙◌, arith, append_assoc}
use Rattle.std.specs.Prelude.{slice_index, Vec}
use Rattle.std.specs.declared.alloc.Global.{Global}
use Rattle.std.proofs.lemmas.List.{append-nil, take_more, length-take}
use Rattle.bound_project.specs.declared.node.Node.{Node}
use Rattle.bound_project.specs.declared.statement.StatementNode.{StatementNode}
use Rattle.bound_project.specs.declared.project.Body.{Body}
use Rattle.pcode.specs.declared.instr.Instr.{Instr}
use Rattle.codegen.specs.declared.node.Around.{Around}
use Rattle.codegen.specs.declared.node.Added.{Added}
use Rattle.codegen.specs.Emission.{lists_of, Row, node_instrs, nodes_instrs, statement_instrs, body_instrs, row_in, bodies_instrs, statement_size, body_size, row_of, table_of}

nodes_push : (added : Added) (orders : List (List ℕ)) (around : Around) (ns : List Node) (n : Node)
    → nodes_instrs added orders around (ns ++ n ∷ []) ≡ nodes_instrs added orders around ns ++ node_instrs added orders around n.kind
nodes_push added orders around [] n = append-nil (node_instrs added orders around n.kind)
nodes_push added orders around (x ∷ ns) n =
    ap (λ c. node_instrs added orders around x.kind ++ c) (nodes_push added orders around ns n)
    ∙ sym (append_assoc (node_instrs added orders around x.kind) (nodes_instrs added orders around ns) (node_instrs added orders around n.kind))

pub nodes_next : (added : Added) (orders : List (List ℕ)) (around : Around) (ns : List Node) (i : ℕ) (d : Node) (old now new : List Instr) → i < length ns
    → now ≡ old ++ nodes_instrs added orders around (take i ns) → new ≡ now ++ node_instrs added orders around (get_or ns i d).kind → new ≡ old ++ nodes_instrs added orders around (take (i + 1) ns)
nodes_next added orders around ns i d old now new lt so_far one =
    let more = node_instrs added orders around (get_or ns i d).kind in
    one ∙ ap (λ c. c ++ more) so_far ∙ append_assoc old (nodes_instrs added orders around (take i ns)) more
    ∙ ap (λ c. old ++ c) (sym (nodes_push added orders around (take i ns) (get_or ns i d)) ∙ ap (λ l. nodes_instrs added orders around l) (sym (take_more ns i d lt)))

body_push : (added : Added) (orders : List (List ℕ)) (row : Row) (p : ℕ) (ns : List Node) (i : ℕ) (ss : List StatementNode) (s : StatementNode)
    → body_instrs added orders row p ns i (ss ++ s ∷ []) ≡ body_instrs added orders row p ns i ss ++ statement_instrs added orders row p ns (i + length ss) s
body_push added orders row p ns i [] s =
    let e : i ≡ i + 0 = omega arith in
    append-nil (statement_instrs added orders row p ns i s) ∙ ap (λ n. statement_instrs added orders row p ns n s) e
body_push added orders row p ns i (x ∷ ss) s =
    let e : suc i + length ss ≡ i + length (x ∷ ss) = omega arith in
    ap (λ c. statement_instrs added orders row p ns i x ++ c)
    (body_push added orders row p ns (suc i) ss s ∙ ap (λ n. body_instrs added orders row p ns (suc i) ss ++ statement_instrs added orders row p ns n s) e)
    ∙ sym (append_assoc (statement_instrs added orders row p ns i x) (body_instrs added orders row p ns (suc i) ss) (statement_instrs added orders row p ns (i + length (x ∷ ss)) s))

pub body_next : (added : Added) (orders : List (List ℕ)) (row : Row) (p : ℕ) (ns : List Node) (ss : List StatementNode) (i number : ℕ) (d : StatementNode) (old now new : List Instr) → i < length ss → number ≡ i
    → now ≡ old ++ body_instrs added orders row p ns 0 (take i ss) → new ≡ now ++ statement_instrs added orders row p ns number (get_or ss i d)
    → new ≡ old ++ body_instrs added orders row p ns 0 (take (i + 1) ss)
body_next added orders row p ns ss i number d old now new lt at so_far one =
    let s = get_or ss i d in
    let before = body_instrs added orders row p ns 0 (take i ss) in
    let len : number ≡ 0 + length (take i ss) = omega (arith, length-take i ss) in
    one ∙ ap (λ c. c ++ statement_instrs added orders row p ns number s) so_far ∙ append_assoc old before (statement_instrs added orders row p ns number s)
    ∙ ap (λ n. old ++ (before ++ statement_instrs added orders row p ns n s)) len
    ∙ ap (λ c. old ++ c) (sym (body_push added orders row p ns 0 (take i ss) s) ∙ ap (λ l. body_instrs added orders row p ns 0 l) (sym (take_more ss i d lt)))

abbrev instrs_of : Added → List (List ℕ) → List (List ℕ) → ℕ → Body → List Instr
instrs_of added orders table p b = body_instrs added orders (row_in table p) p b.nodes.items 0 b.statements.items

bodies_push : (added : Added) (orders table : List (List ℕ)) (p : ℕ) (bs : List Body) (b : Body)
    → bodies_instrs added orders table p (bs ++ b ∷ []) ≡ bodies_instrs added orders table p bs ++ instrs_of added orders table (p + length bs) b
bodies_push added orders table p [] b =
    let e : p ≡ p + 0 = omega arith in
    append-nil (instrs_of added orders table p b) ∙ ap (λ n. instrs_of added orders table n b) e
bodies_push added orders table p (x ∷ bs) b =
    let e : suc p + length bs ≡ p + length (x ∷ bs) = omega arith in
    ap (λ c. instrs_of added orders table p x ++ c) (bodies_push added orders table (suc p) bs b ∙ ap (λ n. bodies_instrs added orders table (suc p) bs ++ instrs_of added orders table n b) e)
    ∙ sym (append_assoc (instrs_of added orders table p x) (bodies_instrs added orders table (suc p) bs) (instrs_of added orders table (p + length (x ∷ bs)) b))

pub bodies_next : (added : Added) (orders table : List (List ℕ)) (all : List Body) (i : ℕ) (b : Body) (old now new : List Instr) → i < length all → b ≡ get_or all i b
    → now ≡ old ++ bodies_instrs added orders table 0 (take i all) → new ≡ now ++ instrs_of added orders table i b → new ≡ old ++ bodies_instrs added orders table 0 (take (i + 1) all)
bodies_next added orders table all i b old now new lt is so_far one =
    let more : take (i + 1) all ≡ take i all ++ b ∷ [] = take_more all i b lt ∙ ap (λ x. take i all ++ x ∷ []) (sym is) in
    let before = bodies_instrs added orders table 0 (take i all) in
    let len : i ≡ 0 + length (take i all) = omega (arith, length-take i all) in
    one ∙ ap (λ c. c ++ instrs_of added orders table i b) so_far ∙ append_assoc old before (instrs_of added orders table i b)
    ∙ ap (λ n. old ++ (before ++ instrs_of added orders table n b)) len
    ∙ ap (λ c. old ++ c) (sym (bodies_push added orders table 0 (take i all) b) ∙ ap (λ l. bodies_instrs added orders table 0 l) (sym more))

-- ---- addresses

size_push : (added : Added) (orders : List (List ℕ)) (ns : List Node) (ss : List StatementNode) (s : StatementNode)
    → body_size added orders ns (ss ++ s ∷ []) ≡ body_size added orders ns ss + statement_size added orders ns s
size_push added orders ns [] s = omega arith
size_push added orders ns (x ∷ ss) s = let e = size_push added orders ns ss s in omega arith

row_push : (added : Added) (orders : List (List ℕ)) (base : ℕ) (ns : List Node) (ss : List StatementNode) (s : StatementNode)
    → row_of added orders base ns (ss ++ s ∷ []) ≡ row_of added orders base ns ss ++ (base + body_size added orders ns ss) ∷ []
row_push added orders base ns [] s = let e : base ≡ base + 0 = omega arith in ap (λ n. n ∷ []) e
row_push added orders base ns (x ∷ ss) s =
    let n = base + statement_size added orders ns x in
    let e : n + body_size added orders ns ss ≡ base + body_size added orders ns (x ∷ ss) = omega arith in
    ap (λ r. base ∷ r) (row_push added orders n ns ss s ∙ ap (λ m. row_of added orders n ns ss ++ m ∷ []) e)

-- the addresses of the first statements, and the address behind them
pub record Placed (added : Added) (orders : List (List ℕ)) (base : ℕ) (ns : List Node) (ss : List StatementNode) (row : List ℕ) (at : ℕ) : Type 0 where
  pub row_is : row ≡ row_of added orders base ns ss
  pub at_is : at ≡ base + body_size added orders ns ss

pub placed_next : (added : Added) (orders : List (List ℕ)) (base : ℕ) (ns : List Node) (all : List StatementNode) (i : ℕ) (d : StatementNode) (row row' : List ℕ) (at at' : ℕ) → i < length all
    → Placed added orders base ns (take i all) row at → row' ≡ row ++ at ∷ [] → at' ≡ at + statement_size added orders ns (get_or all i d) → Placed added orders base ns (take (i + 1) all) row' at'
placed_next added orders base ns all i d row row' at at' lt h er ea =
    let s = get_or all i d in
    let more : take (i + 1) all ≡ take i all ++ s ∷ [] = take_more all i d lt in
    record {
      row_is = er ∙ ap (λ r. r ++ at ∷ []) h.row_is ∙ ap (λ n. row_of added orders base ns (take i all) ++ n ∷ []) h.at_is
          ∙ sym (row_push added orders base ns (take i all) s) ∙ ap (λ l. row_of added orders base ns l) (sym more);
      at_is =
          (let c = h.at_is in
          let d = size_push added orders ns (take i all) s in
          let e = ap (λ l. body_size added orders ns l) more in
          omega arith);
    }

abbrev pub bodies_size : Added → List (List ℕ) → List Body → ℕ
bodies_size added orders [] = 0
bodies_size added orders (b ∷ bs) = body_size added orders b.nodes.items b.statements.items + bodies_size added orders bs

bodies_size_push : (added : Added) (orders : List (List ℕ)) (bs : List Body) (b : Body)
    → bodies_size added orders (bs ++ b ∷ []) ≡ bodies_size added orders bs + body_size added orders b.nodes.items b.statements.items
bodies_size_push added orders [] b = omega arith
bodies_size_push added orders (x ∷ bs) b = let e = bodies_size_push added orders bs b in omega arith

table_push : (added : Added) (orders : List (List ℕ)) (base : ℕ) (bs : List Body) (b : Body)
    → table_of added orders base (bs ++ b ∷ []) ≡ table_of added orders base bs ++ row_of added orders (base + bodies_size added orders bs) b.nodes.items b.statements.items ∷ []
table_push added orders base [] b = let e : base ≡ base + 0 = omega arith in ap (λ n. row_of added orders n b.nodes.items b.statements.items ∷ []) e
table_push added orders base (x ∷ bs) b =
    let n = base + body_size added orders x.nodes.items x.statements.items in
    let e : n + bodies_size added orders bs ≡ base + bodies_size added orders (x ∷ bs) = omega arith in
    ap (λ r. row_of added orders base x.nodes.items x.statements.items ∷ r)
    (table_push added orders n bs b ∙ ap (λ m. table_of added orders n bs ++ row_of added orders m b.nodes.items b.statements.items ∷ []) e)

pub record Tabled (added : Added) (orders : List (List ℕ)) (bs : List Body) (table : List (List ℕ)) (at : ℕ) : Type 0 where
  pub table_is : table ≡ table_of added orders 1 bs
  pub at_is : at ≡ 1 + bodies_size added orders bs

pub tabled_next : (added : Added) (orders : List (List ℕ)) (all : List Body) (i : ℕ) (b : Body) (table table' : List (List ℕ)) (row : List ℕ) (at at' : ℕ) → i < length all → b ≡ get_or all i b
    → Tabled added orders (take i all) table at → table' ≡ table ++ row ∷ [] → row ≡ row_of added orders at b.nodes.items b.statements.items
    → at' ≡ at + body_size added orders b.nodes.items b.statements.items → Tabled added orders (take (i + 1) all) table' at'
tabled_next added orders all i b table table' row at at' lt is h et er ea =
    let more : take (i + 1) all ≡ take i all ++ b ∷ [] = take_more all i b lt ∙ ap (λ x. take i all ++ x ∷ []) (sym is) in
    record {
      table_is = et ∙ ap (λ r. r ++ row ∷ []) h.table_is
          ∙ ap (λ r. table_of added orders 1 (take i all) ++ r ∷ []) (er ∙ ap (λ n. row_of added orders n b.nodes.items b.statements.items) h.at_is)
          ∙ sym (table_push added orders 1 (take i all) b) ∙ ap (λ l. table_of added orders 1 l) (sym more);
      at_is =
          (let c = h.at_is in
          let d = bodies_size_push added orders (take i all) b in
          let e = ap (λ l. bodies_size added orders l) more in
          omega arith);
    }

pub starts_same : (vs : List (Vec ℕ Global)) → map (λ (v : Vec ℕ Global). slice_index v.items 0) vs ≡ map (λ (row : List ℕ). slice_index row 0) (lists_of vs)
starts_same [] = refl
starts_same (v ∷ vs) = ap (λ r. slice_index v.items 0 ∷ r) (starts_same vs)

-- instructions put one after another into a new list
pub put_after : (none one all last : List Instr) (i : Instr) → none ≡ [] → one ≡ none ++ i ∷ [] → all ≡ one ++ last → all ≡ i ∷ last
put_after none one all last i e f g = g ∙ ap (λ c. c ++ last) (f ∙ ap (λ c. c ++ i ∷ []) e)
