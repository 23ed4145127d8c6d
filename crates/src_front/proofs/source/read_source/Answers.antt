use Rattle.std.proofs.Common.{◌≡◌, Err, ◌∙◌, arith}
use Rattle.src_front.specs.Lifted.{of_lexer, of_parser, of_names}
use Rattle.src_front.proofs.Plain.{are_named_well}
use Rattle.src_front.proofs.Counts.{count_body}
use Rattle.src_front.proofs.Nodes.{few_nodes}
use Rattle.src_front.proofs.Chain.{err_is, lex_fault, IsOneText, IsOneTree, parse_only, parse_fault, parse_only_fault, names_fault, names_only, program_only, names_only_fault, no_fault}
use Rattle.src_front.proofs.source.read_source.Goals as goal

pub returns-in_err-tokens-clause-fault : goal.returns-in_err-tokens-clause-fault
returns-in_err-tokens-clause-fault c =
    let told : c.from_residual.result ≡ Err (of_lexer c.in_err-tokens.field-0.0) = err_is c.from_residual.result (of_lexer c.in_err-tokens.field-0.0) c.from_residual.ensures.0 c.from_residual.ensures.1 in
    rw told (lex_fault c.args.bytes.now c.in_err-tokens.field-0.0 c.in_err-tokens.ensures.fault)

pub resolve-requires : goal.resolve-requires
resolve-requires c =
    let found = rw c.deref.ensures.value at c.in_ok-tree.ensures.found in
    let text = c.in_ok-tokens.ensures.found in
    let plain = c.derived_trees_are_plain.ensures c.args.bytes.now c.in_ok-tokens.tokens.items c.in_ok-tree.tree text.0 text.1 found.0 in
    are_named_well c.in_ok-tree.tree.decls plain.decls

pub returns-clause-nodes : goal.returns-clause-nodes
returns-clause-nodes c =
    let found = c.in_ok-tree.ensures.found in
    let named = c.in_ok-resolve.ensures.found in
    few_nodes c.args.bytes.now found.0 found.1 named.body

pub returns-clause-statements : goal.returns-clause-statements
returns-clause-statements c =
    let few = rw c.deref.ensures.value at c.in_ok-tree.ensures.few in
    let tokens = c.in_ok-tokens.ensures.ordered.few in
    let named = c.in_ok-resolve.ensures.found in
    let same = count_body c.in_ok-resolve.field-0.names named.body in
    omega arith

pub returns-in_err-tree-clause-only : goal.returns-in_err-tree-clause-only
returns-in_err-tree-clause-only c = λ r q.
    let same = c.deref.ensures.value in
    let text = rw (← same) at c.in_ok-tokens.ensures.found in
    let one : IsOneText c.args.bytes.now c.deref.result.now = record {
      text = record { spells = text.0; allowed = text.1 };
      one = λ ts a b. same ∙ c.in_ok-tokens.ensures.only ts a b;
      none = c.in_ok-tokens.ensures.only_fault;
    }
    in
    let told : c.from_residual-in_err-tree.result ≡ Err (of_parser c.in_err-tree.field-0.0) = err_is c.from_residual-in_err-tree.result (of_parser c.in_err-tree.field-0.0) c.from_residual-in_err-tree.ensures.0 c.from_residual-in_err-tree.ensures.1 in
    rw told (parse_only c.args.bytes.now c.deref.result.now one c.in_err-tree.field-0.0 c.in_err-tree.ensures.only r q)

pub returns-in_err-tree-clause-fault : goal.returns-in_err-tree-clause-fault
returns-in_err-tree-clause-fault c =
    let same = c.deref.ensures.value in
    let text = rw (← same) at c.in_ok-tokens.ensures.found in
    let one : IsOneText c.args.bytes.now c.deref.result.now = record {
      text = record { spells = text.0; allowed = text.1 };
      one = λ ts a b. same ∙ c.in_ok-tokens.ensures.only ts a b;
      none = c.in_ok-tokens.ensures.only_fault;
    }
    in
    let told : c.from_residual-in_err-tree.result ≡ Err (of_parser c.in_err-tree.field-0.0) = err_is c.from_residual-in_err-tree.result (of_parser c.in_err-tree.field-0.0) c.from_residual-in_err-tree.ensures.0 c.from_residual-in_err-tree.ensures.1 in
    rw told (parse_fault c.args.bytes.now c.deref.result.now one c.in_err-tree.field-0.0 c.in_err-tree.ensures.fault)

pub returns-in_err-tree-clause-only_fault : goal.returns-in_err-tree-clause-only_fault
returns-in_err-tree-clause-only_fault c = λ e f.
    let same = c.deref.ensures.value in
    let text = rw (← same) at c.in_ok-tokens.ensures.found in
    let one : IsOneText c.args.bytes.now c.deref.result.now = record {
      text = record { spells = text.0; allowed = text.1 };
      one = λ ts a b. same ∙ c.in_ok-tokens.ensures.only ts a b;
      none = c.in_ok-tokens.ensures.only_fault;
    }
    in
    let told : c.from_residual-in_err-tree.result ≡ Err (of_parser c.in_err-tree.field-0.0) = err_is c.from_residual-in_err-tree.result (of_parser c.in_err-tree.field-0.0) c.from_residual-in_err-tree.ensures.0 c.from_residual-in_err-tree.ensures.1 in
    rw told (parse_only_fault c.args.bytes.now c.deref.result.now one c.in_err-tree.field-0.0 c.in_err-tree.ensures.only c.in_err-tree.ensures.only_fault e f)

pub returns-in_err-resolve-clause-only : goal.returns-in_err-resolve-clause-only
returns-in_err-resolve-clause-only c = λ r q.
    let same = c.deref.ensures.value in
    let text = rw (← same) at c.in_ok-tokens.ensures.found in
    let one : IsOneText c.args.bytes.now c.deref.result.now = record {
      text = record { spells = text.0; allowed = text.1 };
      one = λ ts a b. same ∙ c.in_ok-tokens.ensures.only ts a b;
      none = c.in_ok-tokens.ensures.only_fault;
    }
    in
    let parsed : IsOneTree c.args.bytes.now c.deref.result.now c.in_ok-tree.tree = record {
      derives = c.in_ok-tree.ensures.found.0;
      limits = c.in_ok-tree.ensures.found.1;
      one = c.in_ok-tree.ensures.only;
      none = c.in_ok-tree.ensures.only_fault;
    }
    in
    let told : c.from_residual-in_err-resolve.result ≡ Err (of_names c.in_err-resolve.field-0.0) = err_is c.from_residual-in_err-resolve.result (of_names c.in_err-resolve.field-0.0) c.from_residual-in_err-resolve.ensures.0 c.from_residual-in_err-resolve.ensures.1 in
    rw told (names_only c.args.bytes.now c.deref.result.now one c.in_ok-tree.tree parsed c.in_err-resolve.field-0.0 c.in_err-resolve.ensures.only r q)

pub returns-in_err-resolve-clause-fault : goal.returns-in_err-resolve-clause-fault
returns-in_err-resolve-clause-fault c =
    let same = c.deref.ensures.value in
    let text = rw (← same) at c.in_ok-tokens.ensures.found in
    let one : IsOneText c.args.bytes.now c.deref.result.now = record {
      text = record { spells = text.0; allowed = text.1 };
      one = λ ts a b. same ∙ c.in_ok-tokens.ensures.only ts a b;
      none = c.in_ok-tokens.ensures.only_fault;
    }
    in
    let parsed : IsOneTree c.args.bytes.now c.deref.result.now c.in_ok-tree.tree = record {
      derives = c.in_ok-tree.ensures.found.0;
      limits = c.in_ok-tree.ensures.found.1;
      one = c.in_ok-tree.ensures.only;
      none = c.in_ok-tree.ensures.only_fault;
    }
    in
    let told : c.from_residual-in_err-resolve.result ≡ Err (of_names c.in_err-resolve.field-0.0) = err_is c.from_residual-in_err-resolve.result (of_names c.in_err-resolve.field-0.0) c.from_residual-in_err-resolve.ensures.0 c.from_residual-in_err-resolve.ensures.1 in
    rw told (names_fault c.args.bytes.now c.deref.result.now one c.in_ok-tree.tree parsed c.in_err-resolve.field-0.0 c.in_err-resolve.ensures.fault)

pub returns-in_err-resolve-clause-only_fault : goal.returns-in_err-resolve-clause-only_fault
returns-in_err-resolve-clause-only_fault c = λ e f.
    let same = c.deref.ensures.value in
    let text = rw (← same) at c.in_ok-tokens.ensures.found in
    let one : IsOneText c.args.bytes.now c.deref.result.now = record {
      text = record { spells = text.0; allowed = text.1 };
      one = λ ts a b. same ∙ c.in_ok-tokens.ensures.only ts a b;
      none = c.in_ok-tokens.ensures.only_fault;
    }
    in
    let parsed : IsOneTree c.args.bytes.now c.deref.result.now c.in_ok-tree.tree = record {
      derives = c.in_ok-tree.ensures.found.0;
      limits = c.in_ok-tree.ensures.found.1;
      one = c.in_ok-tree.ensures.only;
      none = c.in_ok-tree.ensures.only_fault;
    }
    in
    let told : c.from_residual-in_err-resolve.result ≡ Err (of_names c.in_err-resolve.field-0.0) = err_is c.from_residual-in_err-resolve.result (of_names c.in_err-resolve.field-0.0) c.from_residual-in_err-resolve.ensures.0 c.from_residual-in_err-resolve.ensures.1 in
    rw told (names_only_fault c.args.bytes.now c.deref.result.now one c.in_ok-tree.tree parsed c.in_err-resolve.field-0.0 c.in_err-resolve.ensures.only_fault e f)

pub returns-clause-only : goal.returns-clause-only
returns-clause-only c = λ r q.
    let same = c.deref.ensures.value in
    let text = rw (← same) at c.in_ok-tokens.ensures.found in
    let one : IsOneText c.args.bytes.now c.deref.result.now = record {
      text = record { spells = text.0; allowed = text.1 };
      one = λ ts a b. same ∙ c.in_ok-tokens.ensures.only ts a b;
      none = c.in_ok-tokens.ensures.only_fault;
    }
    in
    let parsed : IsOneTree c.args.bytes.now c.deref.result.now c.in_ok-tree.tree = record {
      derives = c.in_ok-tree.ensures.found.0;
      limits = c.in_ok-tree.ensures.found.1;
      one = c.in_ok-tree.ensures.only;
      none = c.in_ok-tree.ensures.only_fault;
    }
    in
    program_only c.args.bytes.now c.deref.result.now one c.in_ok-tree.tree parsed c.in_ok-resolve.field-0 c.in_ok-resolve.ensures.only r q

pub returns-clause-only_fault : goal.returns-clause-only_fault
returns-clause-only_fault c = λ e f.
    let same = c.deref.ensures.value in
    let text = rw (← same) at c.in_ok-tokens.ensures.found in
    let one : IsOneText c.args.bytes.now c.deref.result.now = record {
      text = record { spells = text.0; allowed = text.1 };
      one = λ ts a b. same ∙ c.in_ok-tokens.ensures.only ts a b;
      none = c.in_ok-tokens.ensures.only_fault;
    }
    in
    let parsed : IsOneTree c.args.bytes.now c.deref.result.now c.in_ok-tree.tree = record {
      derives = c.in_ok-tree.ensures.found.0;
      limits = c.in_ok-tree.ensures.found.1;
      one = c.in_ok-tree.ensures.only;
      none = c.in_ok-tree.ensures.only_fault;
    }
    in
    no_fault c.args.bytes.now c.deref.result.now one c.in_ok-tree.tree parsed c.in_ok-resolve.ensures.only_fault e f
