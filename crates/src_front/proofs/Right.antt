-- What a text reads as is a right program.
use Rattle.std.proofs.Common.{◌≤◌, ℕ, List, length, arith}
use Rattle.src_lexer.specs.Laws.{AreOrdered}
use Rattle.src_tree.specs.Laws.{DerivedArePlain, HasPlainParts}
use Rattle.src_parser.proofs.Few.{few}
use Rattle.src_names.specs.RProgram.{RProgram}
use Rattle.src_names.specs.Right.{IsRight}
use Rattle.src_names.specs.Ranges.{IsInRange}
use Rattle.src_names.specs.Sizes.{AllFewNodes, statements}
use Rattle.src_names.proofs.Declaring.{length_declared}
use Rattle.src_names.proofs.Ranges.{is_in_range}
use Rattle.src_names.proofs.Whole.{is_right}
use Rattle.src_front.specs.Reads.{Reads}
use Rattle.src_front.proofs.Counts.{count_body}
use Rattle.src_front.proofs.Plain.{are_named_well}
use Rattle.src_front.proofs.Nodes.{few_nodes}

parts : DerivedArePlain → (src : List ℕ) (r : RProgram) (q : Reads src r) → HasPlainParts q.tree
parts plain src r q = plain src q.tokens q.tree q.is_tree.text.spells q.is_tree.text.allowed q.is_tree.derives

pub read_right : DerivedArePlain → (src : List ℕ) (r : RProgram) → Reads src r → IsRight r
read_right plain src r q =
    let w = parts plain src r q in
    let few : length q.tree.decls ≤ 1024 = (let long = length_declared q.named.declared in let h = q.named.few in omega arith) in
    is_right q.tree r.names r.body few (are_named_well q.tree.decls w.decls) q.named.declared q.named.range q.named.body

pub read_few_nodes : (src : List ℕ) (r : RProgram) → Reads src r → AllFewNodes r.body
read_few_nodes src r q = few_nodes src q.is_tree.derives q.is_tree.limits q.named.body

pub read_few_statements : AreOrdered → (src : List ℕ) (r : RProgram) → Reads src r → statements r.body ≤ length src
read_few_statements ordered src r q =
    let tokens = (ordered src q.tokens q.is_tree.text.spells).few in
    let tree = few src q.tokens q.tree q.is_tree.derives in
    let same = count_body r.names q.named.body in
    omega (arith, tokens, tree, same)

pub read_in_range : DerivedArePlain → (src : List ℕ) (r : RProgram) → Reads src r → IsInRange r
read_in_range plain src r q = is_in_range q.tree r (parts plain src r q) q.named
