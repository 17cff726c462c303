-- A refusal gives its numbers.
use Rattle.rules.specs.Answers.{number_of}
use borrow.Author.Rules.{rules}
use Rattle.refusal_numbers.proofs.NumberFromRefusal.from.Goals as goal

pub returns-in-Size : goal.returns-in-Size
unfolding number_of
returns-in-Size c = search rules

pub returns-in-Structure : goal.returns-in-Structure
unfolding number_of
returns-in-Structure c = search rules

pub returns-in-PastPool : goal.returns-in-PastPool
unfolding number_of
returns-in-PastPool c = search rules

pub returns-in-Names : goal.returns-in-Names
unfolding number_of
returns-in-Names c = search rules

pub returns-in-Namespace : goal.returns-in-Namespace
unfolding number_of
returns-in-Namespace c = search rules

pub returns-in-Declaration : goal.returns-in-Declaration
unfolding number_of
returns-in-Declaration c = search rules

pub returns-in-Double : goal.returns-in-Double
unfolding number_of
returns-in-Double c = search rules

pub returns-in-NoSuchRow : goal.returns-in-NoSuchRow
unfolding number_of
returns-in-NoSuchRow c = search rules

pub returns-in-Level1 : goal.returns-in-Level1
unfolding number_of
returns-in-Level1 c = search rules

pub returns-in-RowRoom : goal.returns-in-RowRoom
unfolding number_of
returns-in-RowRoom c = search rules

pub returns-in-PoolRoom : goal.returns-in-PoolRoom
unfolding number_of
returns-in-PoolRoom c = search rules

pub returns-in-OffsetWithoutLength : goal.returns-in-OffsetWithoutLength
unfolding number_of
returns-in-OffsetWithoutLength c = search rules

pub returns-in-MustBeEmpty : goal.returns-in-MustBeEmpty
unfolding number_of
returns-in-MustBeEmpty c = search rules

pub returns-in-MalformedUtf8 : goal.returns-in-MalformedUtf8
unfolding number_of
returns-in-MalformedUtf8 c = search rules

pub returns-in-NotMarkup : goal.returns-in-NotMarkup
unfolding number_of
returns-in-NotMarkup c = search rules

pub returns-in-Character : goal.returns-in-Character
unfolding number_of
returns-in-Character c = search rules

pub returns-in-TextRoom : goal.returns-in-TextRoom
unfolding number_of
returns-in-TextRoom c = search rules

pub returns-in-Undeclared : goal.returns-in-Undeclared
unfolding number_of
returns-in-Undeclared c = search rules

pub returns-in-Inherited : goal.returns-in-Inherited
unfolding number_of
returns-in-Inherited c = search rules

pub returns-in-Mark : goal.returns-in-Mark
unfolding number_of
returns-in-Mark c = search rules

pub returns-in-Version : goal.returns-in-Version
unfolding number_of
returns-in-Version c = search rules

pub returns-in-Lengths : goal.returns-in-Lengths
unfolding number_of
returns-in-Lengths c = search rules

pub returns-in-BundleRoom : goal.returns-in-BundleRoom
unfolding number_of
returns-in-BundleRoom c = search rules

pub returns-in-Original : goal.returns-in-Original
unfolding number_of
returns-in-Original c = search rules

pub returns-in-Proposal : goal.returns-in-Proposal
unfolding number_of
returns-in-Proposal c = search rules

pub returns-in-ProposalLevel1 : goal.returns-in-ProposalLevel1
unfolding number_of
returns-in-ProposalLevel1 c = search rules

pub returns-in-Changed : goal.returns-in-Changed
unfolding number_of
returns-in-Changed c = search rules

pub returns-in-Unresolved : goal.returns-in-Unresolved
unfolding number_of
returns-in-Unresolved c = search rules
