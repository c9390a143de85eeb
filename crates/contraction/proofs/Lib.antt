-- Condition 3: the contracted search gives the plain search's answer.
pub mod Deciding
pub mod UpDownExact
pub mod ContractedPlain
pub mod ConditionThree
-- 01's cases P1 to P12
pub mod Cases
pub mod Tests
pub mod Labels
pub mod RuleTests
pub mod Shortcuts
pub mod CasesHold
