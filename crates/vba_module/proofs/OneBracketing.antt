-- No two bracketings have the same parts: the first part of a node says what the node is, and no node begins as an arm or an end does.
use Rattle.std.proofs.Common.{◌≡◌, Bool, false, List, [], ◌∷◌, ◌++◌, refl, sym, ap, ◌∙◌, subst, ap₂, append_assoc, append-nil}
use Rattle.vba_module.specs.Parts.{Part}
use Rattle.vba_module.specs.Blocks.{Kind, Role, opens, divides, closes, stands, role_of}
use Rattle.vba_module.specs.Tree.{Node, alone, block, Nodes, no_nodes, node, Arms, no_arms, arm, parts_of_node, parts_of_nodes, parts_of_arms, Stands, IsBracketed, AreBracketed, AreArms}
use Rattle.vba_module.proofs.Bracketed.{behind_opening}

-- no node begins with a part of this role
abbrev NoNode : Role → Type 0
NoNode (divides kind is_last) = Unit {0}
NoNode (closes kind) = Unit {0}
NoNode other = ⊥

abbrev EndsNodes : List Part → Type 0
EndsNodes [] = Unit {0}
EndsNodes (part ∷ parts) = NoNode (role_of part)

-- the same tree in front, and the same parts behind
abbrev Same : {A : Type 0} → A → A → List Part → List Part → Type 0
Same a b behind_a behind_b = (a ≡ b) × (behind_a ≡ behind_b)

stands_no_end : (around : List Kind) (role : Role) → Stands around role → NoNode role → ⊥
stands_no_end around (stands exits) h n = n
stands_no_end around other h n = h

node_no_end : (around : List Kind) (n : Node) (rest : List Part) → IsBracketed around n → EndsNodes (parts_of_node n ++ rest) → ⊥
node_no_end around (alone part) rest h e = stands_no_end around (role_of part) h e
node_no_end around (block kind opening body arms ending) rest h e = subst NoNode h.0 e

stands_no_opening : (around : List Kind) (kind : Kind) (role : Role) → Stands around role → role ≡ opens kind → ⊥
stands_no_opening around kind (stands exits) h e = absurd cc
stands_no_opening around kind other h e = h

arms_end : (around : List Kind) (kind : Kind) (is_last : Bool) (arms : Arms) (ending : Part) (rest : List Part) → AreArms around kind is_last arms → role_of ending ≡ closes kind
    → EndsNodes (parts_of_arms arms ++ ending ∷ rest)
arms_end around kind is_last no_arms ending rest h e = subst NoNode (sym e) tt
arms_end around kind is_last (arm l part body arms) ending rest h e = subst NoNode (sym h.1) tt

head_same : (p q : Part) (ps qs : List Part) → p ∷ ps ≡ q ∷ qs → p ≡ q
head_same p q ps qs h = cc

tail_same : (p q : Part) (ps qs : List Part) → p ∷ ps ≡ q ∷ qs → ps ≡ qs
tail_same p q ps qs h = cc

closes_no_divides : (k l : Kind) (b : Bool) → closes k ≡ divides l b → ⊥
closes_no_divides k l b h = absurd cc

-- the trees may stand inside different kinds
mutual
  one_nodes : (a b : Nodes) (around others : List Kind) (behind_a behind_b : List Part) → AreBracketed around a → AreBracketed others b → EndsNodes behind_a → EndsNodes behind_b
      → parts_of_nodes a ++ behind_a ≡ parts_of_nodes b ++ behind_b → Same a b behind_a behind_b
  one_nodes no_nodes no_nodes around others behind_a behind_b ha hb ea eb h = (refl, h)
  one_nodes no_nodes (node m b) around others behind_a behind_b ha hb ea eb h =
      absurd (node_no_end others m (parts_of_nodes b ++ behind_b) hb.0 (subst EndsNodes (h ∙ append_assoc (parts_of_node m) (parts_of_nodes b) behind_b) ea))
  one_nodes (node n a) no_nodes around others behind_a behind_b ha hb ea eb h =
      absurd (node_no_end around n (parts_of_nodes a ++ behind_a) ha.0 (subst EndsNodes (sym h ∙ append_assoc (parts_of_node n) (parts_of_nodes a) behind_a) eb))
  one_nodes (node n a) (node m b) around others behind_a behind_b ha hb ea eb h =
      let first = one_node n m around others (parts_of_nodes a ++ behind_a) (parts_of_nodes b ++ behind_b) ha.0 hb.0
      (sym (append_assoc (parts_of_node n) (parts_of_nodes a) behind_a) ∙ (h ∙ append_assoc (parts_of_node m) (parts_of_nodes b) behind_b)) in
      let more = one_nodes a b around others behind_a behind_b ha.1 hb.1 ea eb first.1 in
      (ap₂ node first.0 more.0, more.1)

  one_node : (n m : Node) (around others : List Kind) (behind_n behind_m : List Part) → IsBracketed around n → IsBracketed others m
      → parts_of_node n ++ behind_n ≡ parts_of_node m ++ behind_m → Same n m behind_n behind_m
  one_node (alone p) (alone q) around others behind_n behind_m hn hm h = (ap alone (head_same p q behind_n behind_m h), tail_same p q behind_n behind_m h)
  one_node (alone p) (block kind opening body arms ending) around others behind_n behind_m hn hm h =
      absurd (stands_no_opening around kind (role_of p) hn (ap role_of (head_same p opening _ _ h) ∙ hm.0))
  one_node (block kind opening body arms ending) (alone q) around others behind_n behind_m hn hm h =
      absurd (stands_no_opening others kind (role_of q) hm (sym (ap role_of (head_same opening q _ _ h)) ∙ hn.0))
  one_node (block k1 o1 b1 a1 e1) (block k2 o2 b2 a2 e2) around others behind_n behind_m hn hm h =
      let opening : o1 ≡ o2 = head_same o1 o2 _ _ h in
      let roles : opens k1 ≡ opens k2 = sym hn.0 ∙ (ap role_of opening ∙ hm.0) in
      let kind : k1 ≡ k2 = cc in
      let body = one_nodes b1 b2 (k1 ∷ around) (k2 ∷ others) (parts_of_arms a1 ++ e1 ∷ behind_n) (parts_of_arms a2 ++ e2 ∷ behind_m) hn.1 hm.1
      (arms_end (k1 ∷ around) k1 false a1 e1 behind_n hn.2 hn.3) (arms_end (k2 ∷ others) k2 false a2 e2 behind_m hm.2 hm.3)
      (sym (behind_opening (parts_of_nodes b1) (parts_of_arms a1) e1 behind_n)
      ∙ (tail_same o1 o2 _ _ h ∙ behind_opening (parts_of_nodes b2) (parts_of_arms a2) e2 behind_m)) in
      let arms = one_arms a1 a2 (k1 ∷ around) (k2 ∷ others) k1 k2 false false e1 e2 behind_n behind_m hn.2 hm.2 hn.3 hm.3 body.1 in
      let ending : e1 ≡ e2 = head_same e1 e2 behind_n behind_m arms.1 in
      let same_body : b1 ≡ b2 = body.0 in
      let same_arms : a1 ≡ a2 = arms.0 in
      let same : block k1 o1 b1 a1 e1 ≡ block k2 o2 b2 a2 e2 = cc in
      (same, tail_same e1 e2 behind_n behind_m arms.1)

  one_arms : (a b : Arms) (around others : List Kind) (k l : Kind) (la lb : Bool) (ea eb : Part) (behind_a behind_b : List Part) → AreArms around k la a → AreArms others l lb b
      → role_of ea ≡ closes k → role_of eb ≡ closes l → parts_of_arms a ++ ea ∷ behind_a ≡ parts_of_arms b ++ eb ∷ behind_b → Same a b (ea ∷ behind_a) (eb ∷ behind_b)
  one_arms no_arms no_arms around others k l la lb ea eb behind_a behind_b ha hb ra rb h = (refl, h)
  one_arms no_arms (arm last part body arms) around others k l la lb ea eb behind_a behind_b ha hb ra rb h =
      absurd (closes_no_divides k l last (sym ra ∙ (ap role_of (head_same ea part _ _ h) ∙ hb.1)))
  one_arms (arm last part body arms) no_arms around others k l la lb ea eb behind_a behind_b ha hb ra rb h =
      absurd (closes_no_divides l k last (sym rb ∙ (sym (ap role_of (head_same part eb _ _ h)) ∙ ha.1)))
  one_arms (arm l1 p1 b1 a1) (arm l2 p2 b2 a2) around others k l la lb ea eb behind_a behind_b ha hb ra rb h =
      let part : p1 ≡ p2 = head_same p1 p2 _ _ h in
      let roles : divides k l1 ≡ divides l l2 = sym ha.1 ∙ (ap role_of part ∙ hb.1) in
      let last : l1 ≡ l2 = cc in
      let body = one_nodes b1 b2 around others (parts_of_arms a1 ++ ea ∷ behind_a) (parts_of_arms a2 ++ eb ∷ behind_b) ha.2 hb.2
      (arms_end around k l1 a1 ea behind_a ha.3 ra) (arms_end others l l2 a2 eb behind_b hb.3 rb)
      (sym (append_assoc (parts_of_nodes b1) (parts_of_arms a1) (ea ∷ behind_a))
      ∙ (tail_same p1 p2 _ _ h ∙ append_assoc (parts_of_nodes b2) (parts_of_arms a2) (eb ∷ behind_b))) in
      let more = one_arms a1 a2 around others k l l1 l2 ea eb behind_a behind_b ha.3 hb.3 ra rb body.1 in
      let same_body : b1 ≡ b2 = body.0 in
      let same_arms : a1 ≡ a2 = more.0 in
      let same : arm l1 p1 b1 a1 ≡ arm l2 p2 b2 a2 = cc in
      (same, more.1)

pub one_bracketing : (a b : Nodes) → AreBracketed [] a → AreBracketed [] b → parts_of_nodes a ≡ parts_of_nodes b → a ≡ b
one_bracketing a b ha hb h =
    (one_nodes a b [] [] [] [] ha hb tt tt (append-nil (parts_of_nodes a) ∙ (h ∙ sym (append-nil (parts_of_nodes b))))).0
